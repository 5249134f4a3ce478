pub use Rattle.snap.proofs.Rests
mod Yielded
mod Joined
pub mod Fitting
mod Written
pub mod Families
pub mod Walks
pub mod Between
pub mod Ranges
pub mod Lineages
pub mod Places
pub mod Struck
pub mod SentPlaces
pub mod Listed
pub mod SourceLists
pub mod SourceLineages
pub mod Starts
pub mod Rows
pub mod SourcesOf
