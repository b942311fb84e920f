pub mod Faces
pub mod Edges
pub mod Inner
