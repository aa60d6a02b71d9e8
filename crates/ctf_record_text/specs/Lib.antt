pub mod Headers
pub mod Making
pub mod Planned
pub mod Texts
