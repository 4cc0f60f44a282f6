pub mod BufferLemmas
pub mod SameLemmas
