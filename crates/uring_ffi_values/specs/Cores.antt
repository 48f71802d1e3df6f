-- What a call makes of the core or the machine in a place.
pub mod Stepping
pub mod Whole
