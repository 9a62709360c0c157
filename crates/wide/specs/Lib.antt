-- Definitions of two-word numbers.
pub mod Value
pub mod Divided
pub mod Partway
