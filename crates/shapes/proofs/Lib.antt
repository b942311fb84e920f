-- The laws behind the cells that faces make: searches, and what they lead to.
pub mod Seeks
pub mod Sought
