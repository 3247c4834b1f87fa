pub mod Laws
pub mod Kinds
pub mod Rule
pub mod Optimal
pub mod Lawful
