-- What the crates above cite of `permission` beside its contracts.
pub mod Laws
