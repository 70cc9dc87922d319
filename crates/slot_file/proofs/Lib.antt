mod Blank
mod Copied
mod CopyLaws
mod Kept
mod Loads
pub mod Logs
mod Parts
mod PutA
mod PutB
mod Puts
mod Runs
mod Shown
mod Shut
mod SlotsLaws
pub mod Unwritten
mod Files
pub mod Held
mod Read
mod Same
mod Sure
mod Lists
mod CachedPuts
mod CachedLooks
mod SlotsLooks
mod CachedRuns
