pub mod Sharings
pub mod Lays
pub mod Shared
pub mod Answered
pub mod Performs
pub mod Stories
pub mod Pins
pub mod Turns
