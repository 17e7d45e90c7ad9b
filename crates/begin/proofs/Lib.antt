-- What the crates above cite of `begin` beside its contracts.
pub mod Laws
