pub mod Laws
pub mod Loaded
pub mod Told
pub mod Traces
