-- What a take costs, as a figure of the region.
pub mod Cost
