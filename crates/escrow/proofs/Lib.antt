-- Laws of escrow cover.
pub mod Powers
pub mod Covers
