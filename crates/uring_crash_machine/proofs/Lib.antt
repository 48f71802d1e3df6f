-- In the order in which they are best read.
mod Common
-- A log of the requests on one file, and the volume beside it:
pub mod LogNumbers
pub mod LogLengths
pub mod LogBytes
pub mod LogStands
pub mod LogFiles
pub mod LogLaws
-- All logs of an epoch, and the files that it began with:
pub mod LawfulFrom
pub mod Noted
pub mod Short
pub mod FoldedLogs
-- From one event to the next, and from one epoch to the next:
pub mod EpochSteps
pub mod EpochCrashes
