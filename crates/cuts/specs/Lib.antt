pub mod Smallest
pub mod Rows
pub mod Split
pub mod Triangle
pub mod Demand3
pub mod Table
pub mod Inner
