-- What a readable region is.
pub mod Inner
pub mod Readable
