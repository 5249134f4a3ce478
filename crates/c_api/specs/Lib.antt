pub mod Answers
pub mod Asking
pub mod Calls
pub mod Owned
pub mod Pieces
