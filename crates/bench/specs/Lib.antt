pub mod Sharing
pub mod Story
pub mod Calls
pub mod Guarantee
pub mod Worked
