-- The theory of the mound, from cells and trees up to a step of the invariant and the account of cells. No byte.
pub mod Account
pub mod Cells
pub mod Chains
pub mod Counts
pub mod Effects
pub mod Facts
pub mod Held
pub mod Holders
pub mod Leaves
pub mod Order
pub mod Plans
pub mod Sorted
pub mod Steps
pub mod Sums
