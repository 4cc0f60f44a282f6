pub mod ReadyLists
pub mod Tied
