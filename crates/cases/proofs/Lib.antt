pub mod Same
pub mod Computed
pub mod Needs
pub mod Cases
pub mod Beside
