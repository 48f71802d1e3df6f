pub mod Replays
pub mod Disks
pub mod Simulations
pub mod Leftovers
pub mod Stores
