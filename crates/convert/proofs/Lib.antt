-- What the crates above cite of `convert` beside its contracts, and what its own loops and ways out need.
mod Held
pub mod Loops
pub mod NoValueLost
