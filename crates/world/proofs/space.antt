pub mod Ranges
pub mod Usage
pub mod Space
