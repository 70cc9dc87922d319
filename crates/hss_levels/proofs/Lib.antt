pub mod Accepting
pub mod Levels
pub mod OneLevel
pub mod Reading
pub mod Sets
pub mod Verdicts
