-- What a converted region answers from then on.
pub mod Forms
pub mod Replies
pub mod Theorems
pub mod Worked
