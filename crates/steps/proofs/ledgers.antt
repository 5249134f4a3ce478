pub mod Grown
pub mod Kept
pub mod Labels
pub mod Losses
pub mod More
