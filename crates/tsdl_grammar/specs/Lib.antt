pub mod Terminals
pub mod Repeats
pub mod Grammar
pub mod Spelling
pub mod Nesting
pub mod Steps
pub mod Reading
