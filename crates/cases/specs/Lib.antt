pub mod Cases
pub mod Meets
