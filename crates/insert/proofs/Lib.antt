-- What the crates above cite of `insert` beside its contracts, and the ways out of its functions.
pub mod Laws
mod Ways
