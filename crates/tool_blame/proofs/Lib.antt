pub mod AsSign
pub mod Causes
pub mod Lasts
pub mod Origins
pub mod Steady
pub mod Views
pub mod Whole
