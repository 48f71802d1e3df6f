-- What a reader must believe:
pub mod Spelling
pub mod Text
pub mod Exchanges
pub mod Traces
pub mod Reasons
pub mod Chosen
pub mod Questions
pub mod Flaws
pub mod Shown
pub mod Explanations
-- Glue, which joins code to these:
pub mod Reading
pub mod Sessions
pub mod Explaining
