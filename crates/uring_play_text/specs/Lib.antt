-- What a reader must believe:
pub mod ItemLines
pub mod Calls
pub mod Faults
pub mod Inputs
pub mod Outputs
-- Glue, which joins code to these:
pub mod LineReads
pub mod Scripts
pub mod Readings
