mod Common
pub mod Places
pub mod Texts
pub mod LineParts
pub mod CallEntries
pub mod FileTexts
pub mod SortedOnce
pub mod Listed
pub mod Among
pub mod OrderCounts
pub mod Verdicts
pub mod CrashLines
