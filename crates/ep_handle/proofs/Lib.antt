pub mod BoxCalls
pub mod SlotBox
pub mod Steps
