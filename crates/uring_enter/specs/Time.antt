-- The time of a ring, and its timeouts.
pub mod Held
pub mod Kept
pub mod TimeLaws
