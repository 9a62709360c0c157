-- Laws of the program's loop.
pub mod Showing
