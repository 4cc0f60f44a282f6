pub mod Arrivals
mod Laws
mod PairArrivals
pub mod PairClosed
mod PairMarks
mod Peers
mod Prefixes
mod Runs
pub mod Truths
mod Unions
