-- A converted region answers as the old one.
mod Alike
mod Calls
pub mod Proved
pub mod Worked
