pub mod Loops
pub mod Runs
pub mod Bodies
pub mod Ends
