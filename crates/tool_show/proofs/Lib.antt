pub mod Calendar
pub mod Loaded
pub mod Ends
pub mod Showing
pub mod Fronts
