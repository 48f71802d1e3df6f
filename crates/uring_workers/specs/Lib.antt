pub mod Pairings
pub mod Work
pub mod Worker
pub mod WorkLanes
pub mod Opened
