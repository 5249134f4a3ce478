-- What a name stands for among datasets, and what is told of it.
pub mod Named
pub mod Accounted
-- The answers to questions on space over the datasets of a table.
pub mod Used
pub mod Ranges
pub mod Places
pub mod Since
pub mod Alone
-- The records of a send.
pub mod Walk
-- Where sends may start in a table.
pub mod Sources
pub mod Starts
