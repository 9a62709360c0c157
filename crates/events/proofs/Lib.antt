-- What a push leaves.
pub mod Room
