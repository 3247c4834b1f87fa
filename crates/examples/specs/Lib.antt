pub mod CostWaits
pub mod Keeps
