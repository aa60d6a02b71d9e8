pub mod Finding
pub mod Reading
pub mod Sizes
pub mod Laws
