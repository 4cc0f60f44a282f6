pub mod ListLemmas
pub mod WaysLemmas
pub mod CourseLemmas
pub mod OrderLemmas
pub mod ExplorerLemmas
pub mod EveryLemmas
