pub mod Desks
pub mod Serving
pub mod Steady
pub mod Aggregate
