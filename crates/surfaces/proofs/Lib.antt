-- The laws behind closed surfaces: edges read off the list, edges in pairs, and nodes that go by number.
pub mod Pairs
pub mod Flat
pub mod Numbering
