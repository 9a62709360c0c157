-- Laws of the questions.
pub mod Turns
pub mod Theorems
pub mod Asking
pub mod JustCleared
pub mod Examples
