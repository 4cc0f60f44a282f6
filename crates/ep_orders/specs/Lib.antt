pub mod Place
pub mod Orders
pub mod Course
pub mod Explorer
