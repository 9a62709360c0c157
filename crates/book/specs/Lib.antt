-- What orders and fills are, and the clearing of a book.
pub mod Limits
pub mod Book
pub mod Clear
pub mod Gathered
pub mod Claims
