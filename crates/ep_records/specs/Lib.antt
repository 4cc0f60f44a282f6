pub mod Lists
pub mod Slot
pub mod Past
pub mod Aside
pub mod Kept
pub mod Short
pub mod Said
pub mod Numbers
