-- What the crates above cite of `records` beside its contracts.
pub mod Accepted
pub mod Decided
pub mod Every
pub mod InHeap
pub mod InOrder
pub mod InTime
pub mod Played
pub mod Ranges
