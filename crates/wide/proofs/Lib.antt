-- Laws of two-word numbers.
pub mod Laws
pub mod Columns
pub mod Length
pub mod Long
