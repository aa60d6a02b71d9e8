pub mod Clock
pub mod Counting
