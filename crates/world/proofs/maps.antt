pub mod Trees
pub mod Cells
pub mod Rewrites
pub mod BlockCounts
