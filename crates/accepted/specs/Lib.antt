-- What acceptance of records means: the bag played is demand 3's, accepted records are linearizable, and the records of every history of the
-- queue are accepted.
pub mod HistoryRecords
pub mod LedgerPlay
pub mod Linearization
pub mod Slices
pub mod Theorems
