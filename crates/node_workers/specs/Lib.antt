pub mod Ends
pub mod Joined
pub mod Ports
pub mod Starting
pub mod Workers
