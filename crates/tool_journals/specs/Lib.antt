pub mod Adding
pub mod Approve
pub mod Blanks
pub mod Enrol
pub mod Faults
pub mod Migrate
pub mod Taking
