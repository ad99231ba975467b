pub mod Checks
pub mod Field
pub mod Faults
pub mod Writing
