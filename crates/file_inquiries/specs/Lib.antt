-- Questions that a host asks of a session file.
pub mod Entry
pub mod Claims
