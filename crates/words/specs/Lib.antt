-- The definitions of the crate `words`: little-endian words in a list of bytes, one or several in a row.
pub mod Inner
pub mod Word
