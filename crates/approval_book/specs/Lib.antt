pub mod Book
pub mod Listed
