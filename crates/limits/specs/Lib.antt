pub mod Choices
pub mod Limits
pub mod Refusals
pub mod Drafts
