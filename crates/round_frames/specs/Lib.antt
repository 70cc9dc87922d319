pub mod Frames
pub mod Asks
pub mod Replies
pub mod Requests
pub mod Results
pub mod Sending
pub mod Reads
