pub mod DeadlineLemmas
pub mod MarkLemmas
pub mod PlaceLemmas
pub mod ProcessLemmas
pub mod QueueLemmas
pub mod TallyLemmas
pub mod TurnLemmas
pub mod ViewLemmas
