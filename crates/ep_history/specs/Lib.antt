pub mod Bytes
pub mod Fields
pub mod Fits
pub mod Sockets
pub mod Calls
pub mod Answers
pub mod Records
