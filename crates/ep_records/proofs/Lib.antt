pub mod KeptLemmas
pub mod SameLists
pub mod WholeLemmas
