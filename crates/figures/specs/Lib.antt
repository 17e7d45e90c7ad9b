-- What the report over many scripts says, from the input's bytes.
pub mod Figures
pub mod Inner
pub mod Promises
pub mod Report
pub mod Scripts
pub mod Theorems
pub mod Turns
