pub mod Breaks
pub mod Existing
