pub mod Commits
pub mod Names
pub mod Beside
pub mod Blame
pub mod AsSign
