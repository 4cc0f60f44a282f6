pub mod Options
pub mod Streams
