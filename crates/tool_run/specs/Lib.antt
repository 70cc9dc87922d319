pub mod Drill
pub mod Told
pub mod ToolRun
pub mod Worlds
