pub mod Addresses
pub mod Commands
pub mod Digits
pub mod Few
pub mod Options
pub mod Taken
