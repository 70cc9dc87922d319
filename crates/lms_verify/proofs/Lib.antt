pub mod Signed
pub mod Judged
