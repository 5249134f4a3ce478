-- What each request to a pool means. In the comments "profile" stands for a rule of this project's own; any other source is the
-- ZFS On-Disk Specification (2006) or an OpenZFS manual page.
pub mod World
pub mod State
pub mod Sights
pub mod Ids
pub mod Hierarchy
pub mod Codes
pub mod Sums
pub mod Limits
pub mod Fits
pub mod Properties
pub mod Targets
pub mod Lengths
pub mod Edits
pub mod Rule
pub mod requests
pub mod Outcome
pub mod Refusals
pub mod Numbers
pub mod Kept
pub mod Step
pub mod Run
