-- The completion ring's table.
pub mod Layout
pub mod Rule
pub mod Steps
pub mod Ends
