-- In the order in which they are best read.
mod Common
-- Boxes whose parts C keeps:
mod Walks
pub mod HeldKinds
pub mod Moving
-- Words that ask for a machine, and words that tell of a refusal:
pub mod Starts
pub mod Refusals
pub mod Exits
pub mod Cutting
pub mod Files
-- What a call is told to have done, as steps and as text:
mod TracedSteps
mod TracedPlaces
pub mod SetupTokens
pub mod FlagSpellings
