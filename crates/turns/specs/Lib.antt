-- What a turn at a place leaves.
pub mod Inner
