pub mod Hmac
pub mod Lengths
pub mod Masks
