-- The statements about turns, beginnings and permissions.
pub mod Theorems
