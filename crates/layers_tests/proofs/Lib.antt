pub mod Splits
pub mod Young
