pub mod Files
pub mod Heads
pub mod Key
pub mod Reference
pub mod Tree
pub mod Views
