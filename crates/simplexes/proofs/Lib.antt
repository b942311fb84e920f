-- The laws behind the proofs of the code that splits.
mod Ahead
mod Laws
mod Scan
pub mod Settled
mod Written
