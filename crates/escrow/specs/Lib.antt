-- Escrow cover, from document 02, ticket 1.
pub mod Cover
pub mod Claims
