-- One call: what it is asked for, what it does next, and what it returns.
pub mod Replies
pub mod Due
pub mod After
pub mod Laws
pub mod Waits
pub mod Arguments
pub mod Reaching
pub mod Unknown
pub mod Passages
pub mod Slept
pub mod Signals
