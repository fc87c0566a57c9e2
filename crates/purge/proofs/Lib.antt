pub mod Sets
pub mod Marks
pub mod Gathered
pub mod Kept
pub mod Written
pub mod Answers
pub mod Meaning
