pub mod Constants
pub mod Ranged
pub mod Bounded
