-- What the contracts of inner functions cite; no operation's contract needs it to be read.
pub mod Plain
pub mod Laid
