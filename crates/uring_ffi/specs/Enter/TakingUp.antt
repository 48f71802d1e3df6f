-- Which entries a call takes, and which are drained.
pub mod TakingForm
pub mod DecisionForm
