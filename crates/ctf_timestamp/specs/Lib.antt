pub mod Digits
pub mod Putting
pub mod Civil
pub mod Zones
pub mod Stamps
pub mod Laws
pub mod Trims
