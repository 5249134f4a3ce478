pub mod Lineages
pub mod Runs
pub mod Bookmarks
pub mod Views
pub mod Records
pub mod Laws
pub mod Sends
-- What a host may conclude.
pub mod Both
pub mod Answered
