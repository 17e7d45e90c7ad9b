-- The laws of a take's cost.
pub mod Laws
