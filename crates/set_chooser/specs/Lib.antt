pub mod Listing
pub mod Verdicts
pub mod Promise
