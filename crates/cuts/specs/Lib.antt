-- Cases of cutting a script down, and the statement that all hold.
pub mod Rows
