pub mod Wants
pub mod Gives
pub mod Laws
