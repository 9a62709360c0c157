-- What a print discloses.
pub mod Disclosure
pub mod Answers
