pub mod Exploring
pub mod Answered
pub mod Told
