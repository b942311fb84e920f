-- The laws that the proofs of the program share.
pub mod Few
