pub mod Ends
pub mod Files
pub mod Holding
pub mod LogWriters
pub mod Traces
