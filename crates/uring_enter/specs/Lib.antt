pub mod Call
pub mod TakingUp
pub mod GoingOn
pub mod Waiting
pub mod Time
pub mod Cancels
pub mod Completions
pub mod Rings
