pub mod Numbers
pub mod Bounds
