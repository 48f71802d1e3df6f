-- What a reader must believe:
pub mod Rules
pub mod SetupLines
pub mod Records
pub mod Findings
pub mod Cancels
pub mod Posters
pub mod Reports
pub mod Checks
-- Glue, which joins code to these:
pub mod Checking
