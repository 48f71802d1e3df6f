-- In the order in which they are best read.
mod Common
-- Events in few bytes:
pub mod Keeping
-- What steps of the trace make, one by one and so many times:
pub mod TraceSteps
pub mod Tallying
pub mod Recording
mod Repeating
pub mod ItemSteps
pub mod CallSteps
mod CallsMade
pub mod CallLengths
-- A turn of the dispatcher: what it pulls, issues and posts:
pub mod Tying
pub mod Issuing
pub mod Posting
pub mod Turning
-- Jobs and results, by workers:
pub mod Dealing
mod Sent
pub mod Carrying
mod SameLanes
pub mod SameEnds
-- Settling: what waits is taken in, worker after worker, and reported:
mod Collecting
pub mod Settling
mod SettledWorkers
mod WorkerFiles
pub mod Reporting
