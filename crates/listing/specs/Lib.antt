-- The text of a listing.
pub mod Words
pub mod Lines
pub mod Causes
