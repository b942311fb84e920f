-- The laws that the proofs of winding share, and what is claimed of its answers.
pub mod Points
pub mod Round
mod Sound
pub mod Turned
pub mod Parts
pub mod Rising
pub mod Inserted
pub mod Joined
pub mod Written
pub mod Passed
pub mod Whole
pub mod Grid
pub mod Claims
mod Examples
