pub mod Graphs
pub mod Members
pub mod Moments
pub mod Following
pub mod Drawings
pub mod Readings
pub mod Forms
