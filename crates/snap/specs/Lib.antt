-- What the snapshots of one request are.
pub mod Taking
-- What the requests leave of datasets, and why they are refused.
pub mod Requests
-- What open views show.
pub mod Viewing
pub mod Entries
pub mod Sound
-- The blocks that are to be freed.
pub mod Members
