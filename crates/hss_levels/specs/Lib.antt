pub mod FaultNumbers
pub mod HssAccepts
pub mod HssKey
pub mod Levels
pub mod Parts
pub mod TwoLevels
pub mod Verdict
