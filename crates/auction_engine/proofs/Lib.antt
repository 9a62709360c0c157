-- Laws of sessions, calls and answers.
pub mod Chains
pub mod Checks
pub mod Steps
pub mod Passing
pub mod Pairs
pub mod Answers
pub mod Zeros
pub mod Lots
pub mod Clears
pub mod Fills
pub mod FillLoop
pub mod Allocating
pub mod Prints
pub mod Orders
