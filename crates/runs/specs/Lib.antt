pub mod Firings
pub mod Nets
pub mod Standings
pub mod Seen
pub mod Loops
pub mod Wirings
pub mod Places
