pub mod OrderLemmas
pub mod ViewLemmas
pub mod SwapLemmas
pub mod FirstLemmas
pub mod PlaceLemmas
pub mod MapLemmas
