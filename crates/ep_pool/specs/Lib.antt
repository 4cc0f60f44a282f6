pub mod Steps
pub mod Jobs
