-- The proofs of the cases: every row, and the whole table.
pub mod Cases
pub mod Document01
pub mod Request1
pub mod Request2
pub mod Request3
pub mod Request4
pub mod Request5
pub mod Request7
pub mod Request8
pub mod Request9
