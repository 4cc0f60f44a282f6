pub mod Changes
pub mod Deadlines
pub mod Processes
pub mod Queue
pub mod Tallies
pub mod Turns
pub mod Waiters
