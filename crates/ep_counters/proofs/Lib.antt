pub mod Expirations
pub mod Arrivals
mod Written
