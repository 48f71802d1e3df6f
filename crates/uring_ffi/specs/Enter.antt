-- What `uring_enter` decides, in words that C can read.
pub mod Call
pub mod Cancels
pub mod Completions
pub mod GoingOn
pub mod Rings
pub mod TakingUp
pub mod Time
pub mod Waiting
