pub mod Times
pub mod Holding
pub mod Laws
