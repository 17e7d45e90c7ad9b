-- What the crates above cite of `access` beside its contracts, and the ways out of its own functions.
pub mod EffectLaws
pub mod OrderLaws
pub mod ReadLaws
mod Ways
