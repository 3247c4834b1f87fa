pub mod Sets
pub mod Worked
