pub mod Filling
pub mod Keeping
pub mod Fetching
pub mod Failing
pub mod Openings
pub mod Headers
pub mod Demand
pub mod Asking
