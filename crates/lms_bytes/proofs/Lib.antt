pub mod Examples
pub mod Joined
pub mod Layouts
pub mod Lengths
pub mod Parts
pub mod Shortfall
pub mod Xor
pub mod MessageIds
