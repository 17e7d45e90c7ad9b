-- The proof that every case holds.
pub mod CutsHold
