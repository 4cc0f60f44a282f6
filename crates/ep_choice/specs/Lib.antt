pub mod Answers
pub mod Choose
pub mod Guarded
pub mod Lost
pub mod Marking
pub mod Narrow
pub mod Room
