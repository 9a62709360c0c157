-- A session, and what each call makes of it, from document 01: 'Phases', 'Turning away' and the source.
pub mod Session
pub mod Call
pub mod Kinds
pub mod Screening
pub mod Clearing
pub mod Matching
pub mod NextFill
pub mod Rofr
pub mod Settlement
pub mod Engine
pub mod Opening
