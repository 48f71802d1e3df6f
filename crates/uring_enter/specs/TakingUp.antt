-- Which entries a call takes, what the core is given of them, and which are drained.
pub mod Takings
pub mod TakingLaws
pub mod Drainings
pub mod Rounds
pub mod CoreEntries
