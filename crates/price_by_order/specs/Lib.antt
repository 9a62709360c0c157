-- What the search by order keeps on the way.
pub mod Steps
