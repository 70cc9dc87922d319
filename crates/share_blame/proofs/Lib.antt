pub mod Heads
pub mod Bounds
pub mod Kept
pub mod Committed
pub mod Liars
pub mod Naming
mod Remade
