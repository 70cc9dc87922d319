pub mod Draws
pub mod Events
