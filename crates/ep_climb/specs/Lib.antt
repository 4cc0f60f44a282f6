pub mod Reach
pub mod Mark
