-- Which limits a world breaks, from numbers that are kept by file system.
pub mod Changes
pub mod Lines
pub mod Ledgers
pub mod Charges
pub mod Places
pub mod Rows
-- What a change of a live map would do to the counts that limits are asked of.
pub mod Outlooks
-- Sums of space up the hierarchy, limits, and what a change asks of them.
pub mod Levels
pub mod Limits
pub mod Space
pub mod Steps
pub mod Asked
pub mod Forecasts
