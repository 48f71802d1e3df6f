-- In the order in which they are best read.
-- The course of an operation, and which call comes next:
mod CourseRuns
mod ChainRuns
mod WayRuns
mod CallTryRuns
mod AdvanceRuns
mod ReadingRuns
-- Descriptors and open files:
mod ReadinessRuns
mod DescriptorRuns
mod AskingRuns
mod TrappingRuns
-- Cancels and updates:
mod CancellingRuns
mod AfreshRuns
