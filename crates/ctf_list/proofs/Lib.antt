pub mod Options
pub mod Prefix
pub mod Row
