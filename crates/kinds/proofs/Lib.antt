-- What the crates above cite of `kinds` beside its contracts.
pub mod FailedIsComparison
pub mod TableIsKinds
