-- Cases worked out by hand from documents 01 and 02: what a row says, the rows, and the statement that all hold.
pub mod Cases
pub mod Conversions
pub mod Document01
pub mod Request1
pub mod Request2
pub mod Request3
pub mod Request4
pub mod Request5
pub mod Request7
pub mod Request8
pub mod Request9
pub mod Row
