pub mod Tables
pub mod Register
