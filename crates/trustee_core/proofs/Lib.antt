pub mod Adding
mod Approvals
pub mod ApprovedIds
pub mod Extending
pub mod Living
pub mod NoteLists
pub mod NotesHeld
mod Noting
mod Refusals
mod Restarting
pub mod Stepping
