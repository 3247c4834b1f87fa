pub mod Codes
pub mod Sheets
pub mod Meanings
