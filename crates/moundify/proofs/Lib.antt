-- The ways out of the functions of `moundify`, and of its return.
mod Returns
mod Ways
