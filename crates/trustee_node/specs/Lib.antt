pub mod Turns
pub mod Places
pub mod Replies
pub mod Connections
pub mod Workers
pub mod Trustees
pub mod Ports
pub mod Gathered
