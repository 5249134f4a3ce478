-- What the requests leave of datasets, and why they are refused.
pub mod Requests
-- What a rename of snapshots leaves, and why it is refused.
pub mod Naming
