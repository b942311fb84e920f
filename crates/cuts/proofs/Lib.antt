-- The laws of cuts, and what is proved of them.
pub mod Laws
pub mod Least
pub mod Strings
pub mod Cuts
pub mod Table
pub mod KindTest
pub mod Winding
pub mod OneCell
pub mod NoSlit
pub mod Shared
pub mod Demand3
mod Examples
