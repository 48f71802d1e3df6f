-- In the order in which they are best read.
mod Common
-- A call of io_uring_enter(2): what it takes, what comes next, what it returns:
mod Next
mod Commands
mod Running
mod Ending
mod Returning
mod TakingRuns
mod SignalRuns
-- Time:
mod TimeoutOrder
mod TimeoutRows
mod TimeoutRuns
mod TimesKept
-- Completions, as they are posted and shown:
mod PostingRuns
mod ShowingRuns
mod PuttingOffRuns
-- Cancels, and what comes after one:
mod CancelRuns
mod AwaitingRuns
mod DueRuns
-- Who waits for what:
mod Counts
mod LookoutRuns
mod WaiterRuns
mod JoiningRuns
