pub mod CommandLine
pub mod OptionRows
