-- The ways out of the functions of `extract`.
mod Ways
