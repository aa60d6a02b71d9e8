pub mod Upward
pub mod Times
