pub mod Bytes
pub mod Sets
pub mod Many
pub mod Actors
pub mod Names
pub mod Files
pub mod Graphs
pub mod Ways
