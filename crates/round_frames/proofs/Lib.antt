pub mod Puts
pub mod Reading
pub mod Replying
pub mod Sends
pub mod Writing
