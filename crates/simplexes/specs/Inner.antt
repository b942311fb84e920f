-- What the contracts of inner functions cite, and how a result of Rattle is what specs/ByValue says; no export's contract
-- needs it to be read.
pub mod Lesser
pub mod Written
pub mod Value
