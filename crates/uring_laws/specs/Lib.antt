-- What is read straight off a history:
pub mod Direct
pub mod Stopping
pub mod Published
pub mod Finishes
-- What holds of every lawful one:
pub mod Laws
pub mod LinuxLaws
pub mod HistoryLists
-- Requests as they stand, and the ring between calls:
pub mod Reasons
pub mod Standing
-- Answers that were recorded, and events that change places:
pub mod Recorded
pub mod Swaps
