mod Common
pub mod Watching
pub mod FollowedLines
pub mod Runs
pub mod Replies
pub mod Kept
pub mod Searches
