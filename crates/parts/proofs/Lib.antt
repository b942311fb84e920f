-- The laws behind sub-entities and poly forms.
pub mod PolyFaces
pub mod PolyEdges
pub mod Codims
mod Answered
mod Fitting
mod Sides
mod Apart
