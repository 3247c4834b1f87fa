pub mod Optimal
pub mod Sizes
