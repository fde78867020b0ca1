pub mod Ceilings
pub mod Lists
pub mod Names
