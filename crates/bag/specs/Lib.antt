-- "The bag" of document 01: what is claimed of every list of calls on a laid-out region; and what takes and puts cost.
pub mod Account
pub mod Alone
pub mod Calls
pub mod Demand3
pub mod Exported
pub mod History
pub mod Moments
pub mod Operations
pub mod Permission
pub mod PutCost
pub mod TakeCost
pub mod Theorems
pub mod Told
pub mod TookInOrder
pub mod Tries
