-- In the order in which they are best read.
mod Common
-- Texts, and what a step with the text of an answer shows:
pub mod Texts
pub mod Showing
pub mod Looking
pub mod OneLine
pub mod HistoryLines
-- What a history tells by each side of it, and what the search told:
pub mod Sides
pub mod Answered
-- Histories that are written from lines:
pub mod WrittenSteps
pub mod WrittenCompletions
pub mod WrittenLines
