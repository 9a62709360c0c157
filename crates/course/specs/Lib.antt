-- Demand 2 over the call, lists of calls, demand 3, and the number of fills before the crank.
pub mod Course
pub mod Demand3
pub mod FillCount
pub mod Applied
pub mod CaseL
pub mod Demand2
pub mod Lines
pub mod Refusals
pub mod Covered
pub mod Exclusions
