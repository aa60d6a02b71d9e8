pub mod Told
pub mod Seen
pub mod Classes
pub mod Items
pub mod Blocks
pub mod Linking
pub mod Laws
