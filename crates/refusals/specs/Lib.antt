-- The numbers of refusals.
pub mod Number
