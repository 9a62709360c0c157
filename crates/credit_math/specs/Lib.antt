-- What the price search and the pro-rata allotment are, from document 01, part 3.
pub mod Limits
pub mod Error
pub mod Rounding
pub mod Price
pub mod SideTotals
pub mod ProRata
pub mod Steps
pub mod Carried
pub mod Claims
pub mod Ranks
