pub mod RewriteLaw
pub mod Untouched
pub mod Presence
pub mod LawProofs
pub mod Contents
pub mod Marks
mod Compared
