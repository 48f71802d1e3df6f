mod Common
pub mod Calls
pub mod Moments
pub mod Arrows
mod Members
pub mod Streams
pub mod Pictures
