pub mod Counting
pub mod Hosting
pub mod Joining
pub mod Lists
pub mod Logs
pub mod Onward
pub mod Prefixes
pub mod Starting
