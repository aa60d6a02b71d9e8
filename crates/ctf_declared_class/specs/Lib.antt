pub mod Views
pub mod Stopped
pub mod Kept
pub mod Knowns
pub mod Distinct
