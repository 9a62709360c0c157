-- The number of fills, before the crank.
pub mod FillCount
pub mod Steps
pub mod Examples
