-- What a turn counts as.
pub mod Kind
pub mod Theorems
