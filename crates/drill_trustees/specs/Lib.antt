pub mod Members
pub mod Trustees
