-- Laws of the number of fills, and the worked examples.
pub mod Fills
pub mod Places
pub mod Bounds
pub mod Hands
pub mod Sides
pub mod Examples
