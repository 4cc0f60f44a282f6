pub mod Timer
pub mod Law
