pub mod Timers
pub mod Alarms
pub mod Called
pub mod Changes
pub mod Law
