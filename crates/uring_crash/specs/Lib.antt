-- What a reader must believe:
pub mod FirstLines
pub mod Crashes
pub mod Keeping
pub mod Searching
pub mod Questions
-- Glue, which joins code to these:
pub mod Watches
pub mod Following
pub mod Runs
