pub mod Spelling
pub mod Judging
pub mod Laws
