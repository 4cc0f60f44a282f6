pub mod Parts
pub mod Told
pub mod Sessions
pub mod Closes
