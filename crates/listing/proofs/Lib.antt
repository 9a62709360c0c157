-- Laws of a listing's text.
pub mod Fields
pub mod Records
pub mod OneToOne
