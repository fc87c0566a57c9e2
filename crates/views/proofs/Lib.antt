pub mod Flags
pub mod Searches
pub mod Lows
pub mod Linked
pub mod Calm
pub mod Sound
pub mod Listed
