-- The source's public functions on a lent slice of records.
pub mod Slices
pub mod Figures
