pub mod TextLemmas
pub mod TreeLemmas
