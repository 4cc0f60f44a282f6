pub mod AmongLemmas
pub mod RingLemmas
pub mod CircleLemmas
pub mod OwnerLemmas
pub mod TurnLemmas
pub mod PlacedLemmas
