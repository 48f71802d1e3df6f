-- What is posted, what the application is shown, and what it has reaped.
pub mod Showing
pub mod ShowingLaws
pub mod Postings
pub mod PostingLaws
pub mod Shots
pub mod Prospects
pub mod Storing
pub mod Unsent
