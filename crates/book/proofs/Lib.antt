-- Laws of the clear.
pub mod Live
pub mod Sides
pub mod Stored
pub mod Outcomes
pub mod Allocations
pub mod Theorems
pub mod Lots
pub mod Sharers
pub mod Same
pub mod IdleClears
