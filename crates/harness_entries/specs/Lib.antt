-- What the entries answer.
pub mod Rows
