-- Values that may be absent, and bytes that are put in, padded and copied.
pub mod Options
pub mod Zeros
pub mod Pointers
pub mod Patches
pub mod PointerWrites
pub mod Padded
pub mod Copies
pub mod Unwritten
-- What is found from a root on.
pub mod LeafPaths
pub mod Found
pub mod Walked
pub mod Moments
pub mod LeafOrder
pub mod Gathering
pub mod ReadAnswers
pub mod ReadBack
-- What an image has after the writes of a change, of many leaves and of one path.
pub mod AfterChange
pub mod AfterRewrite
pub mod Made
pub mod WritingMade
pub mod PathHeld
pub mod PathOpen
pub mod PathsApart
-- What one update of a live map changes, and what it leaves to be written.
pub mod Touching
pub mod OnePath
pub mod Standing
pub mod LiveTrees
pub mod Placing
pub mod MadeBlocks
-- What the image of a pool has, from step to step.
pub mod Stays
pub mod StepMaps
pub mod Drawing
pub mod Written
pub mod Opening
pub mod Walking
pub mod LiveChange
pub mod StepMade
-- The roots of datasets.
pub mod AllRoots
pub mod Rooted
