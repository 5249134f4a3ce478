pub mod Standing
pub mod Batches
