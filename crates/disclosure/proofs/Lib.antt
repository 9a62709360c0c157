-- Laws of bands.
pub mod Parts
