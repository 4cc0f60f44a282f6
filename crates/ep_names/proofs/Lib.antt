pub mod LawLemmas
pub mod LowestLemmas
pub mod MarkLemmas
pub mod NameLemmas
