pub mod Numbers
pub mod Times
pub mod Texts
pub mod Asked
pub mod Names
pub mod Command
