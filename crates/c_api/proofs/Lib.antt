pub mod Handles
pub mod Owned
