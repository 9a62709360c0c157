-- What a block of bytes says.
pub mod Image
