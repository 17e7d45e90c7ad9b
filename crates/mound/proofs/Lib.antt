-- The proofs of the statements in `specs/Theorems.antt`, and of a run's and a cut's numbers in one.
pub mod CutAnswerTellsAll
mod CutPacking
mod Packing
pub mod RunAnswerTellsAll
