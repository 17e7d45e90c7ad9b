-- The definitions of the crate `records`: what a record is, the bag as a list of items, and which records are accepted.
pub mod Accepts
pub mod Inner
pub mod Kind
pub mod Play
pub mod Recorded
