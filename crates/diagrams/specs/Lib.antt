pub mod Needs
pub mod Nodes
pub mod Held
pub mod Needed
pub mod Apply
pub mod Constants
