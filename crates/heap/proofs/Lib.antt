-- What the users of `heap` cite beside its contracts, and what the proofs of its own loops need.
mod Holes
pub mod Laws
mod Loops
