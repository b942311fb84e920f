-- The laws behind the proofs of a block's split.
pub mod Parts
pub mod Promised
pub mod Halves
mod Ahead
mod Examples
