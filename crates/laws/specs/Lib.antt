-- Definitions that several crates share.
pub mod Sums
pub mod Search
pub mod Lists
pub mod Sort
pub mod Lex
pub mod Checks
pub mod Bits
