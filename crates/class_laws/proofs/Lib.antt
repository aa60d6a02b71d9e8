pub mod Leading
pub mod Resolving
pub mod Denoted
pub mod Reading
pub mod Sized
pub mod Widths
