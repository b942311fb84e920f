pub mod Wire
pub mod Frame
pub mod Text
pub mod Inner
