pub mod Choice
pub mod Search
pub mod Range
pub mod Lists
pub mod Order
pub mod Sets
pub mod Bits
