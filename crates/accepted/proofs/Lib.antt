-- The theorems of the crate `accepted`, and what they rest on.
pub mod Arranged
pub mod Bags
pub mod Begins
pub mod Linear
pub mod Recording
pub mod Steps
pub mod Theorems
pub mod Written
