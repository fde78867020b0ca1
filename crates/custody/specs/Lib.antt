pub mod Meaning
pub mod Movements
