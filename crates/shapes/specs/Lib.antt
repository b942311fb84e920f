pub mod Cells
pub mod Seek
pub mod Tet
pub mod Wedge
pub mod Brick
pub mod Inner
