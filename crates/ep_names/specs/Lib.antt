pub mod Law
pub mod Names
pub mod Numbers
