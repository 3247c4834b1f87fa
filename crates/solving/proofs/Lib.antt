pub mod Turning
pub mod Readoff
