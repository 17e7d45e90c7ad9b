-- Carrying a region of the form before request 7 over to the present form.
pub mod Convert
pub mod Inner
pub mod Theorems
