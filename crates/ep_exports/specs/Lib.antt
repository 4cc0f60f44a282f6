pub mod Status
pub mod Keeping
pub mod Events
pub mod Asking
pub mod Records
pub mod Watches
