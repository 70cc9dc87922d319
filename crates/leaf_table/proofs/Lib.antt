mod BodyBytes
pub mod Maps
mod Sound
mod Settling
pub mod Held
mod Found
mod Events
mod Putting
mod Entering
mod Running
mod Once
mod Orders
mod Indexing
mod Looking
mod Walking
