-- The events of a call.
pub mod Events
