pub mod Judgement
pub mod Listed
pub mod Tables
pub mod Guards
