pub mod ByValue
pub mod Inner
