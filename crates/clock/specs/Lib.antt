-- Definitions of times.
pub mod Clock
