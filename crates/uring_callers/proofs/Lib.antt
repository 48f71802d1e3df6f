mod Common
pub mod Waiting
pub mod Replaying
pub mod Turns
pub mod Broken
pub mod Committing
