-- Words for the lemmas on a pool's steps.
pub mod Settles
pub mod Room
pub mod Steady
pub mod Edits
pub mod Listed
pub mod Spaces
pub mod Asked
pub mod Ruled
pub mod Limiting
pub mod Counted
pub mod Received
pub mod Intakes
pub mod Reached
pub mod Handed
