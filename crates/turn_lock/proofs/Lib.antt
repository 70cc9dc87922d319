pub mod Prefixes
pub mod Totals
pub mod Rule
pub mod Moves
