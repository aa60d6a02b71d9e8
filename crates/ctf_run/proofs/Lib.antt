pub mod Answering
pub mod Classed
pub mod Refused
pub mod Shown
pub mod Whole
