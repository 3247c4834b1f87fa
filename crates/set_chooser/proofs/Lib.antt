pub mod Concluding
pub mod Promised
