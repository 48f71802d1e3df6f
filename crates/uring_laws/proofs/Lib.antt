-- In the order in which they are best read.
mod Common
-- The lists are the history's own:
pub mod ToldRequests
pub mod ReadOff
pub mod DirectSubmission
pub mod DirectRequests
pub mod DirectCompletions
pub mod DirectPlaces
pub mod DirectPut
pub mod TakenPlaces
pub mod PublishedItems
pub mod Chosen
-- Requests and rings:
pub mod Growth
pub mod OrderLaws
pub mod RequestLaws
pub mod RingLaws
pub mod ReasonLaws
pub mod FoundLaws
pub mod RecordedLaws
-- Calls:
pub mod Standing
pub mod WholeCalls
pub mod Stopping
-- Files:
pub mod WholeLaws
pub mod FilesApart
pub mod FileLaws
-- By Linux's rules:
pub mod LinuxSound
pub mod LinuxGroups
pub mod LinuxKept
pub mod LinuxDrains
pub mod LinuxLaws
-- Events that change places:
pub mod AlikeRequests
pub mod AlikeDrains
pub mod AlikeLinux
pub mod AlikeRules
pub mod StartedRequests
pub mod Alike
pub mod EndedRequests
pub mod Turns
pub mod Swapping
pub mod Apart
pub mod CalledRequests
pub mod Unseen
pub mod TwoEnds
pub mod Sides
pub mod Reordered
-- The definitions, computed on one history:
mod WorkedHistory
