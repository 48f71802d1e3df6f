-- In the order in which they are best read.
mod Common
-- The laws of early effects:
mod AtFinishes
mod AllowedResults
mod EarlyResults
pub mod Waiting
-- Files without their counts:
pub mod Plain
-- What may take effect before an end:
pub mod Adding
-- What is left of a search:
pub mod Searching
-- What runs after an event:
pub mod RunningAfter
-- How operations stand along a timeline:
pub mod Standings
-- A timeline of moves, and moves of a timeline:
pub mod Timelines
-- The marks of a history, one by one:
pub mod Marking
-- Requests and worlds, whatever bytes were given:
pub mod BlankRequests
pub mod BlankRules
pub mod BlankWorlds
-- The bytes of completions that were posted, and those that are known:
pub mod Agreeing
-- A history with some bytes at its finishes, from moves of a search that knows a part of them:
pub mod Filling
-- And such moves, from a history:
pub mod Loosening
-- What is known of a history, event by event:
pub mod Knowing
-- What a search comes to that knows a part of the bytes:
pub mod Deciding
