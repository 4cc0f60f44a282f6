pub mod RunLemmas
pub mod EveryLemmas
