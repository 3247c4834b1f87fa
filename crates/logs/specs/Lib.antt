pub mod Drafted
pub mod Logs
