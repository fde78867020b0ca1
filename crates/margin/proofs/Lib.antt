pub mod Bounds
pub mod Gains
