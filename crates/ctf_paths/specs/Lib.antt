pub mod Names
pub mod Spots
pub mod Finding
pub mod Mapped
pub mod Telling
pub mod MovedClocks
