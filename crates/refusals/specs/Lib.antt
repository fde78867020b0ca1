pub mod Refusals
pub mod Checks
pub mod Ranges
pub mod Holdings
pub mod Shown
