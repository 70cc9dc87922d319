pub mod Before
pub mod Causes
pub mod Dealt
pub mod Exacts
pub mod Leases
pub mod Origins
pub mod Losses
pub mod Overs
pub mod Ports
pub mod Signs
pub mod Steady
pub mod Tables
pub mod Views
pub mod Whole
pub mod Writes
mod Placing
pub mod HssCauses
pub mod HssSteady
mod Written
mod HssWhole
