pub mod Witness
