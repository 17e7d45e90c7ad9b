-- A thread's permission: what it grants, the call that sets it, and what a turn does that lacks it.
pub mod Grants
pub mod Permit
pub mod Withdraw
