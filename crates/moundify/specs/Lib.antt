-- The six places of mending.
pub mod Inner
pub mod Moundify
