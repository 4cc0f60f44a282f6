pub mod Ends
pub mod Waiting
pub mod Socket
pub mod Law
