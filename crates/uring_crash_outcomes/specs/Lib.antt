pub mod Shown
pub mod Moves
pub mod Laws
pub mod Faults
pub mod Found
pub mod Trials
