-- A session file: its records, what they make, its listing.
pub mod Marks
pub mod Fields
pub mod Reads
pub mod File
pub mod Entry
pub mod Ended
pub mod Claims
pub mod Steps
pub mod Parts
