pub mod Order
pub mod Heap
pub mod DueQueue
pub mod Tick
pub mod DueMap
