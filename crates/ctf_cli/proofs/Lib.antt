pub mod Endings
pub mod Names
pub mod Opened
pub mod Settled
