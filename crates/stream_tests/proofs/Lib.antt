pub mod Building
pub mod Clocks
pub mod Gaps
pub mod Sizes
pub mod Ends
pub mod Headers
pub mod Scopes
