pub mod Tables
pub mod Subentities
pub mod Poly
pub mod Inner
