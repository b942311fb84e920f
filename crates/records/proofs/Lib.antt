-- The laws that the proofs of records share.
pub mod Tests
pub mod Places
pub mod Bytes
pub mod Decimals
pub mod Frames
pub mod Lines
mod Examples
