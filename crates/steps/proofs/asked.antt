pub mod Asked
pub mod Settled
pub mod Foreseen
pub mod Ahead
