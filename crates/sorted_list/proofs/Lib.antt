pub mod Exact
mod Places
mod Sorting
