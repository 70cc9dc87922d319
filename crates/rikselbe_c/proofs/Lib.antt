pub mod Answering
pub mod HssStreams
pub mod Streams
mod Beginning
mod Placed
mod Updating
