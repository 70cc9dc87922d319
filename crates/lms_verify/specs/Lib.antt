pub mod Accepts
pub mod UndividedKey
pub mod Verdict
