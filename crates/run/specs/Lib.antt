-- What a run does, the contracts of its functions, and what holds of runs.
pub mod Inner
pub mod Run
pub mod Theorems
