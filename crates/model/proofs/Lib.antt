pub mod Limits
pub mod Good
pub mod Arrows
pub mod Denoted
pub mod HighestEntry
