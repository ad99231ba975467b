pub mod Steps
pub mod Rings
pub mod Same
pub mod Windows
pub mod Writes
pub mod Totals
