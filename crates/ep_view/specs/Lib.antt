pub mod KernelView
pub mod Marking
pub mod AtRest
