mod Asking
mod Batches
mod Conversing
mod Deciding
mod Ending
mod Frames
mod Heads
mod Lengths
mod Masks
mod Noting
pub mod Opening
pub mod Serving
pub mod Standing
mod Turning
mod Working
pub mod Gathering
pub mod Finishing
mod Running
pub mod PortOpening
pub mod RoomyLinks
