-- How each place's plan ends, of which kind its effect is, and the ways out of the functions.
pub mod PlaceEffects
pub mod PlaceKinds
mod Ways
