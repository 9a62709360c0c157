-- Laws of the questions of a file.
pub mod Asking
pub mod Theorems
