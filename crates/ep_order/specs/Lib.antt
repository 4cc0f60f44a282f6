pub mod Order
pub mod Pick
pub mod Step
pub mod Reach
pub mod Mark
pub mod Event
pub mod Ending
