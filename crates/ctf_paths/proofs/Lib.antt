pub mod Lists
pub mod Names
pub mod Finding
pub mod ByName
pub mod Telling
pub mod Movement
