pub mod Ranges
pub mod Bounds
pub mod Comparisons
pub mod Products
