mod Keeping
mod Bytes
mod Parts
mod Taking
mod Composites
mod Opening
mod Sizing
mod Fetched
mod Fronts
mod Begun
mod Headers
pub mod Longer
