pub mod Enter
pub mod Operations
pub mod Registered
