pub mod Climb
pub mod Lengths
pub mod Levels
pub mod Rows
pub mod Siblings
pub mod Trees
