pub mod Boxes
pub mod CoreWords
pub mod Cores
pub mod Machines
pub mod Volumes
pub mod Outcomes
pub mod LayerWords
pub mod Traces
