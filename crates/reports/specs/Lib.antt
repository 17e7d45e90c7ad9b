-- Cases of the report over many scripts, and the statement that all hold.
pub mod Rows
