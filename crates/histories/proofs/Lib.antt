-- Whole histories, computed. In a crate of their own, so that demand 3's does not wait for the cases.
pub mod WholeHistories
