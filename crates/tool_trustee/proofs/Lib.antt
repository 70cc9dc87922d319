mod Asked
pub mod Booking
pub mod Lasts
mod Lives
mod Loading
pub mod Serving
mod Steady
pub mod Wholes
