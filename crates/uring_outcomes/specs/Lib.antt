-- What calls may come to, and the moves that lead there:
pub mod Moments
pub mod CallOutcomes
pub mod Recorded
pub mod MoveLaws
pub mod Prompt
pub mod Direct
-- The walk over all of them:
pub mod Outcomes
pub mod Laws
pub mod Runs
pub mod Index
pub mod Faults
pub mod Walks
