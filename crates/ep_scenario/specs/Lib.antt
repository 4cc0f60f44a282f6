pub mod Lines
pub mod Reading
pub mod Outcomes
pub mod Schedule
pub mod Replay
