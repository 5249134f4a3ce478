pub mod KeyBounds
pub mod Fronts
pub mod Passing
pub mod Streams
pub mod Parts
