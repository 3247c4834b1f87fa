pub mod Sums
pub mod Grown
pub mod Kept
pub mod Ready
pub mod Ranges
pub mod Closing
