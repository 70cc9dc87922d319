pub mod Dealt
pub mod FirstFault
pub mod HeadParts
pub mod Plans
pub mod References
pub mod Shares
pub mod TreeFiles
pub mod Versions
