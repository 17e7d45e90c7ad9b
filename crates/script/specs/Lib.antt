-- What a script prints, from its bytes.
pub mod Inner
pub mod Printing
pub mod Promises
pub mod Reading
pub mod Script
pub mod Text
pub mod Theorems
