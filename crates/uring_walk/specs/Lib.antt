pub mod Paths
pub mod Walks
pub mod Amid
