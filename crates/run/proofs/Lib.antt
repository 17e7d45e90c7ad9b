-- What the crates above cite of `run` beside its contracts, what the proof of its loop needs, and the theorem's proof.
pub mod Laws
pub mod RunOfOneIsTurn
mod Turns
