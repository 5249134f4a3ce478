pub mod Allocator
pub mod Bits
pub mod Numbers
pub mod Paired
pub mod Sets
pub mod States
pub mod Tallies
pub mod Touched
