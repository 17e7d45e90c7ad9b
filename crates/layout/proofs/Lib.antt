-- What the crates above cite of `layout` beside its contracts, and what its own loops and ways out need.
pub mod Laws
pub mod LayoutReads
mod Loops
