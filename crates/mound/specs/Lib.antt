-- The calls that the host makes.
pub mod Calls
pub mod Inner
pub mod Theorems
