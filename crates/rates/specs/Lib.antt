pub mod Faults
pub mod Rows
pub mod Rates
pub mod Agree
pub mod Rated
