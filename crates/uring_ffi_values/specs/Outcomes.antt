-- What is told of a list of outcomes.
pub mod Outcomes
