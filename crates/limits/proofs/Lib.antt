mod Taken
pub mod Coefficients
pub mod Words
