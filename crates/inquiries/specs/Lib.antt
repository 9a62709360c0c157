-- Questions that are asked of a session, which they leave as it is.
pub mod Why
pub mod Claims
pub mod Cleared
pub mod Examples
