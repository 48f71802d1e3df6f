-- What a reader must believe:
pub mod Drains
pub mod LinuxRequests
pub mod Issuable
pub mod Happenings
pub mod Laws
pub mod LinuxWhy
pub mod LinuxCancels
pub mod Posting
-- Glue, which joins code to these:
pub mod Issues
pub mod Window
pub mod Groups
pub mod KeptDrains
pub mod LinuxDispatch
pub mod Counts
