-- What the places share: the order of items, counters, READ, comparison, effects and plans.
pub mod Effect
pub mod Order
pub mod Plan
pub mod Read
