pub mod Limits
pub mod Made
pub mod Arrows
pub mod Denoted
pub mod Refused
pub mod Good
pub mod Highest
pub mod Refusal
