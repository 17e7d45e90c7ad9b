-- What a script is cut down to, from its bytes.
pub mod Cut
pub mod Inner
pub mod Program
pub mod Promises
pub mod Shown
pub mod Theorems
pub mod Whole
