pub mod Tells
pub mod Settled
pub mod Hosts
pub mod Dots
pub mod Attributes
pub mod EntryNames
pub mod Spans
