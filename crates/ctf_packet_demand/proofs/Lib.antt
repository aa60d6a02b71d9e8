pub mod Lasting
pub mod Following
pub mod Telling
pub mod Asking
pub mod Sizing
pub mod Beginning
pub mod Shorter
pub mod Needing
