pub mod Walked
pub mod Stack
pub mod Looks
pub mod Extended
