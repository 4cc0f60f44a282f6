pub mod AnswerLemmas
mod Arrivals
pub mod BitLemmas
pub mod ConnectionLemmas
pub mod IdleLemmas
pub mod KindLemmas
mod Laws
pub mod NamingLemmas
mod NeededLemmas
pub mod OwnEndLemmas
mod PairEndLemmas
pub mod PendingLemmas
pub mod RealLemmas
pub mod StandingLemmas
pub mod StayLemmas
pub mod TimerLemmas
mod WrapLemmas
