-- The definitions of the crate `region`: records as words, the frame, and shared memory read from bytes as functions.
pub mod Answer
pub mod Frame
pub mod Held
pub mod Inner
pub mod Laws
pub mod Level
pub mod Pick
pub mod Place
pub mod Record
pub mod Refusal
pub mod Shape
pub mod Shared
pub mod Thread
