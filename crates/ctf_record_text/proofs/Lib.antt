pub mod Bare
pub mod Chosen
pub mod Heading
pub mod Planned
pub mod Records
pub mod Scopes
pub mod Telling
