-- The laws behind recognition: the walk over faces of one length, the usual lists, and what is claimed of the answers.
pub mod Nodes
pub mod Ends
pub mod Never
pub mod Claims
pub mod Usual
mod Examples
