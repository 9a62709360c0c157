-- Bytes and the numbers that they say.
pub mod Bytes
pub mod Decimal
pub mod Writing
pub mod Puts
