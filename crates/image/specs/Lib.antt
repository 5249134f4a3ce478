-- "profile" stands for a rule of this project's own.
-- Blocks as bytes, and what is found by following their pointers.
pub mod ImageBlocks
pub mod ImageWalk
pub mod HasBlocks
-- What contracts see of an image, and which numbers may be written.
pub mod Image
pub mod Opened
-- Writes of blocks, of many and of a changed path.
pub mod BlockWrites
pub mod PathWrites
pub mod ImageLaws
-- What a change of a live map leaves to be written.
pub mod Contents
pub mod Updates
pub mod Writes
-- What the image of a pool has, what a step writes there, and the roots of datasets.
pub mod Stored
pub mod StepWrites
pub mod Roots
