pub mod Kinds
pub mod Checks
pub mod Outcome
pub mod Gather
pub mod Solids
pub mod Inner
