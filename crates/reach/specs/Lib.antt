pub mod Set
pub mod Explored
pub mod Answered
