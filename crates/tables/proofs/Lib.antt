pub mod Keeps
pub mod Linked
pub mod Tables
