pub mod Ports
pub mod Removed
pub mod Crosses
mod Links
mod Added
mod Loans
mod Stable
mod Unchanged
mod Outcomes
mod Talks
mod MemFiles
