pub mod Asked
pub mod Built
pub mod Exclusive
pub mod FilesOf
pub mod FirstShares
pub mod Joins
pub mod Mapped
pub mod Parts
pub mod SameTree
pub mod Undivided
pub mod Wanting
pub mod Sums
pub mod Signers
pub mod Rehearsing
mod OntoParts
mod OntoStops
mod OntoEnds
