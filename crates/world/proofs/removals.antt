pub mod Sweep
pub mod Removals
pub mod WithoutSnaps
pub mod Rollbacks
pub mod Families
pub mod Slices
pub mod Emptied
