pub mod Steps
pub mod Writes
pub mod Canon
pub mod Spelled
pub mod Chains
