mod Numbers
pub mod Heard
pub mod Names
pub mod Nets
pub mod Runs
pub mod Unaccepted
pub mod Sharing
pub mod Writing
pub mod Outs
pub mod Takes
pub mod Parses
pub mod Verdicts
pub mod Viewing
pub mod Fronts
pub mod Beside
