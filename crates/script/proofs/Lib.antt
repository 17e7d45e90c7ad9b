-- What the crates above and the functions' proofs cite.
pub mod Computing
pub mod Decimals
pub mod Laws
mod Layouts
pub mod LineCalls
mod Lines
pub mod NoLineLeftOut
pub mod Readings
pub mod Regions
pub mod Setups
pub mod Texts
mod Whole
pub mod WorkedExample
