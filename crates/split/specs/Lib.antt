pub mod State
pub mod Text
