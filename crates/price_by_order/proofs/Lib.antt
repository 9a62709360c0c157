-- Laws of the search by order.
pub mod Sides
pub mod Walk
