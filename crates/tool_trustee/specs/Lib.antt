pub mod Journals
pub mod Loads
pub mod Lives
pub mod Nets
pub mod Services
pub mod Steady
pub mod Trustee
