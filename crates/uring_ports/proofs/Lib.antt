mod MessageLemmas
mod MessageSteps
mod LaneLemmas
pub mod AppEndLemmas
