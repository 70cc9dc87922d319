mod Answered
mod BodyBytes
mod Entering
pub mod Held
mod Holding
mod Putting
mod Refused
mod Settling
pub mod Maps
