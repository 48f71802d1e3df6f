-- The time of a ring, and its timeouts.
pub mod ChangingForm
