-- What the crates above cite of `region` beside its contracts.
pub mod Entries
pub mod Forms
pub mod Frames
pub mod Items
pub mod Levels
pub mod Parts
pub mod Picks
pub mod Refusals
pub mod Shapes
pub mod Threads
pub mod Views
