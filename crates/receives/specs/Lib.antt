-- What a receive makes of datasets.
pub mod Updates
pub mod Requests
pub mod Ends
