pub mod Calls
pub mod Chain
pub mod Links
pub mod Nets
pub mod Ports
pub mod Waiting
pub mod MemFiles
pub mod MemStore
