pub mod Back
pub mod Sole
