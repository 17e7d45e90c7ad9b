-- One turn on a region's bytes.
pub mod Inner
pub mod Turn
