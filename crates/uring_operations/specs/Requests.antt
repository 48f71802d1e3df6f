-- The course of one request: when it starts, when it can be finished, what a cancel or an update makes of it, and with which result it ends.
pub mod Cancelling
pub mod Courses
pub mod CourseLaws
pub mod Outcomes
pub mod Readiness
pub mod Ways
pub mod Afresh
pub mod Faults
pub mod Starts
pub mod Glances
