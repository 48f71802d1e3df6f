-- Set-ups, steps and answers as lines of a trace.
pub mod TraceLines
pub mod Traced
pub mod SetupLines
pub mod FlagLetters
