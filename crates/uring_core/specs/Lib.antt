-- What a reader must believe:
pub mod Stops
pub mod World
pub mod StepAnswers
pub mod StepForm
pub mod Histories
pub mod Events
pub mod CalledFor
pub mod Core
pub mod Recorded
pub mod WholeCalls
-- Glue, which joins code to these:
pub mod Told
