-- The laws of ids that lie in a record's bytes, and what the layers below agree on.
pub mod Long
pub mod Agree
mod Examples
mod PExamples
