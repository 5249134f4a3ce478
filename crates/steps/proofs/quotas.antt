pub mod Room
pub mod Limits
pub mod Bounded
pub mod Unlimited
pub mod Alike
pub mod Foretold
pub mod Balanced
