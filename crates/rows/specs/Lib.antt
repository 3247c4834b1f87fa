pub mod Ones
pub mod Bests
pub mod Readied
