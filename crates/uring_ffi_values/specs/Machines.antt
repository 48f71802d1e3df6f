-- What a call makes of the machine in a place whose power may fail.
pub mod Crashing
