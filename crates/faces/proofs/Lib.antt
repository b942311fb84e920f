-- The law from a place in the list to the list of faces, for every walk over them.
pub mod Walk
