pub mod Blamed
pub mod CommitFile
pub mod Commits
pub mod Liars
pub mod Loads
