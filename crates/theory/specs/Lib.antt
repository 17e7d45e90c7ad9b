-- The mound itself: what its lists and its tree hold, the bag beside it, and what an account of its cells counts. No byte.
pub mod Account
pub mod Ledger
pub mod Told
pub mod Tree
