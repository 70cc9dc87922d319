pub mod Buffered
pub mod FileLaws
pub mod Files
pub mod RawPorts
pub mod Refusals
pub mod TcpPort
pub mod Untold
