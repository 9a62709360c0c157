-- Investors behind orders.
pub mod Exclusion
pub mod Excluded
pub mod Participants
