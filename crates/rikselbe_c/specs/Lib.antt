pub mod Answers
pub mod HssStream
pub mod LmsStream
pub mod Numbers
pub mod States
