pub mod Told
pub mod Faults
pub mod Notes
pub mod Says
