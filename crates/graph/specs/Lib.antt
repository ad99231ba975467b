pub mod Channels
pub mod Counts
pub mod Piece
pub mod Rules
pub mod File
pub mod Faults
pub mod Answers
pub mod Meaning
