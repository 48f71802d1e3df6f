-- What a reader must believe:
pub mod Setup
pub mod Flags
pub mod Errors
pub mod Numbers
pub mod Layout
pub mod Preparation
pub mod Success
pub mod Results
pub mod Below
pub mod IndexWords
pub mod Submission
pub mod Requests
pub mod Groups
pub mod Why
pub mod Completions
-- Glue, which joins code to these:
pub mod Texts
