pub mod WalkLemmas
pub mod AscentLemmas
pub mod ReachLemmas
pub mod ClimbLemmas
pub mod MarkLemmas
pub mod SetLemmas
pub mod LinkLemmas
