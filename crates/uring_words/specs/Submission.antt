-- The submission ring's table.
pub mod Layout
pub mod Calls
pub mod Rule
pub mod Steps
pub mod Ends
