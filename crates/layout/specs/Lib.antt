-- The definition of the call that lays a region out, and how a laid-out region reads.
pub mod Inner
pub mod Layout
pub mod Theorems
