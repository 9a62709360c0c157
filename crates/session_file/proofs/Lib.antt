-- Laws of a session file.
pub mod Marks
pub mod Headers
pub mod Reading
pub mod Lines
pub mod Stepping
pub mod Lent
pub mod Running
pub mod PartByPart
pub mod Entry
pub mod Ended
pub mod Course
pub mod Refusals
pub mod Endings
