-- The definitions of the crate `heap`: a binary heap of numbers in a list, and what a push and a pop change.
pub mod Heap
pub mod Inner
