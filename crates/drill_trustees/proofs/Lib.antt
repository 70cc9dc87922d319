pub mod Asking
pub mod Deciding
pub mod Ending
pub mod Journals
pub mod Results
pub mod Starting
pub mod Replacing
