pub mod Writing
pub mod ViewsLine
pub mod Bounds
pub mod Joined
pub mod Reading
pub mod Called
