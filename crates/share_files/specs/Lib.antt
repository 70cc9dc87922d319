pub mod Commits
pub mod FaultNumbers
pub mod Head
pub mod Reference
pub mod Share
pub mod TreeFile
pub mod Sets
