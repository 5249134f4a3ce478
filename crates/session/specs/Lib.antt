-- What a session's batches, views and workers promise. In the comments "profile" stands for a rule of this project's own.
pub mod Calls
pub mod Views
pub mod ViewCalls
pub mod Works
pub mod Handed
pub mod Places
-- What a session's history promises. In the comments "profile" stands for a rule of this project's own.
pub mod Receipts
pub mod Asked
pub mod History
pub mod Books
pub mod Entering
pub mod Whole
pub mod Entered
