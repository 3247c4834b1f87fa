pub mod Makes
pub mod Saying
pub mod Onward
pub mod Rounds
pub mod Stages
