-- In the order in which they are best read.
mod Common
-- What an event moves:
pub mod ByRules
pub mod Changes
pub mod Moves
pub mod SubmissionMoves
pub mod CompletionMoves
-- From the layers to the core:
pub mod CoreSteps
pub mod CoreCalls
pub mod CoreTakes
pub mod CoreEnds
pub mod Following
-- What is so after every lawful history:
pub mod ListCounts
pub mod Sound
pub mod SoundRings
pub mod SoundRequests
pub mod RequestEnds
pub mod Groups
pub mod Running
pub mod FileHistory
-- Recorded answers, and what settling asks:
pub mod SameAnswers
pub mod RecordedAnswers
pub mod SureAnswers
pub mod Issuable
pub mod WholeCalls
pub mod Outstanding
pub mod TakenEntries
pub mod Elements
-- By Linux's rules:
pub mod LinuxHistories
