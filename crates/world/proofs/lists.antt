pub mod Lists
pub mod Maps
pub mod SetCounts
pub mod Listed
pub mod Finding
pub mod Names
