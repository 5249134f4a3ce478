-- "profile" stands for a rule of this project's own.
pub mod Records
pub mod Spelling
pub mod Reading
pub mod Writing
pub mod Laws
