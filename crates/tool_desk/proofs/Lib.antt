pub mod Grammars
pub mod Heads
pub mod Keys
pub mod Viewing
pub mod Outs
pub mod Taking
