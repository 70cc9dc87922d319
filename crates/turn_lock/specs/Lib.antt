pub mod Lock
pub mod Pass
pub mod Known
pub mod Turned
pub mod Plays
