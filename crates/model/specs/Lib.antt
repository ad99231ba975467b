pub mod Net
pub mod Likeness
pub mod Laws
pub mod Schedule
pub mod Rate
pub mod Meaning
pub mod Examples
