pub mod Counting
pub mod Finding
pub mod Freed
pub mod Noted
pub mod Pairing
pub mod Sets
pub mod States
pub mod Words
