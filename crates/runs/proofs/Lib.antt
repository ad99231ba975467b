pub mod Marks
pub mod Ticks
pub mod Graphs
pub mod Places
