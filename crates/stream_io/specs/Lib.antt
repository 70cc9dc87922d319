pub mod Net
pub mod RawFiles
pub mod Store
pub mod Talk
