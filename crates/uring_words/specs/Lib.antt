pub mod Places
pub mod Sides
pub mod Submission
pub mod Completion
pub mod PortViews
