-- The laws that every layer's proofs share.
pub mod Tests
pub mod Lists
pub mod Picks
pub mod Tables
pub mod Settle
pub mod Accepted
pub mod Numbers
mod Examples
