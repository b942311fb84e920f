-- What the contracts of inner functions cite, and how a result of Rattle is the answer that C sees; no export's contract
-- needs it to be read.
pub mod Fit
pub mod Lent
pub mod Room
pub mod Answers
