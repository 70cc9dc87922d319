mod Calls
pub mod FaultLaws
mod Filled
mod Fronts
pub mod Gates
mod Images
mod Marks
pub mod SameDisk
mod States
mod Written
