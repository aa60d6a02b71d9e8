pub mod Gives
pub mod Fault
pub mod Front
