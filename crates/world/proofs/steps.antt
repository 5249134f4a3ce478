pub mod Groups
pub mod Snapshots
pub mod SnapshotLists
pub mod Takings
pub mod States
pub mod StateSteps
