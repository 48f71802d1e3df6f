pub mod Recordings
pub mod Shown
