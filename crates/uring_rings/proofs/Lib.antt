mod Common
pub mod Counts
pub mod Elements
pub mod Places
pub mod SubmissionWords
pub mod SubmissionSteps
pub mod SubmissionCalls
pub mod CompletionSteps
