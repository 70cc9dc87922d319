pub mod Answering
pub mod AllIsWell
pub mod LevelsAreWell
pub mod Witness
