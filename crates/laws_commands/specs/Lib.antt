pub mod Accepting
pub mod Every
pub mod Losing
pub mod Requests
pub mod Serving
pub mod Steady
pub mod Uses
