-- What a reader must believe:
pub mod Tokens
pub mod Spelling
pub mod Forms
pub mod Completions
pub mod Lines
pub mod Remarks
pub mod Writing
pub mod Places
pub mod Reaches
pub mod Visible
pub mod Flaws
-- Glue, which joins code to these:
pub mod Reading
pub mod KeptLine
pub mod Streams
pub mod Terms
