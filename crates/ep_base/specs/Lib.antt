pub mod Answer
pub mod Buffer
pub mod Call
pub mod Errno
pub mod Limits
pub mod Time
