pub mod Recognise
pub mod FromPoly
pub mod Claims
pub mod Inner
