pub mod Sums
pub mod Meaning
pub mod Methods
pub mod Portfolios
