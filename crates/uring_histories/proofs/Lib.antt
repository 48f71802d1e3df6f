mod Common
pub mod Recorded
pub mod Submitted
pub mod Arrived
pub mod Files
pub mod Lawful
pub mod Told
