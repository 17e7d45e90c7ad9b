-- What the crates above cite of readability beside its contracts, and what its own loops and ways out need.
pub mod Laws
pub mod Loops
pub mod Stores
