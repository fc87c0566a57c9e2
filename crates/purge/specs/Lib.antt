pub mod Sets
pub mod Purged
