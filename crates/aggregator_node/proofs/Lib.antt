pub mod Answering
mod Replying
pub mod Keeping
pub mod Showing
pub mod Signing
pub mod Turning
pub mod Statuses
pub mod PortTurns
pub mod Requests
pub mod Serving
mod Working
mod Standing
mod Running
mod Summing
pub mod Gathering
mod Finishing
mod RoomyLinks
