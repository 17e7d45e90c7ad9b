-- The eight places of a put.
pub mod Insert
