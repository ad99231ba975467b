pub mod Listed
pub mod Rowed
pub mod Going
pub mod Graphs
pub mod Agreements
pub mod Fastest
