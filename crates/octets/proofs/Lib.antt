-- Laws of the numbers that bytes say, and of bytes that are written.
pub mod Spliced
pub mod Numbers
pub mod Decimal
pub mod Fitting
pub mod Answers
pub mod Distinct
