mod Common
pub mod Walks
pub mod OptionTexts
pub mod CommandOptions
pub mod CommandRows
pub mod CommandLine
pub mod Refusals
