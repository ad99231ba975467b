pub mod Piles
pub mod Answered
