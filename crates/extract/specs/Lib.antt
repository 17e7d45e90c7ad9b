-- The places of both kinds of take.
pub mod Extract
