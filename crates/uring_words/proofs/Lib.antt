pub mod Standing
mod AppSteps
mod KernelSteps
mod CompletionSteps
pub mod Seats
pub mod Plays
pub mod CompletionPlays
pub mod Cells
pub mod CallLemmas
pub mod Positions
pub mod Copying
pub mod FirstTable
pub mod CompletionFirst
pub mod Tables
