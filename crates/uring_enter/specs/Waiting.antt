-- What waits, what is looked at, and how a call sleeps.
-- What a ring looks out for, and what is known of who waits:
pub mod Lookouts
pub mod Waiters
pub mod Watching
-- The epoll instance of those that wait, and calls of poll(2) and select(2):
pub mod Enlisting
pub mod Lying
pub mod Joining
pub mod Selecting
-- Pipes, and which polls are told of a write:
pub mod Hearing
pub mod Missed
pub mod PipePolls
pub mod Rivals
-- How a call sleeps, and how a sleep ends:
pub mod Sleeping
pub mod Sleeps
pub mod Jumps
pub mod Leaving
