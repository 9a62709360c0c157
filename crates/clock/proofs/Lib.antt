-- Laws of times.
pub mod Laws
