mod Places
mod Nets
mod Tables
mod Whole
pub mod Steady
