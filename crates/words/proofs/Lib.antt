-- What the crates above cite of `words` beside its contracts, and what the proofs of its own loops need.
pub mod Laws
mod Loops
