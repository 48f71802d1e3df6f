-- In the order in which they are best read.
mod Common
pub mod ItemLists
-- Moves are made by histories:
pub mod Reaching
pub mod CallsTaken
pub mod MovesMade
pub mod Reaping
-- Histories are moves:
pub mod MovesLead
-- What is so of each moment:
pub mod SoundMoments
pub mod Prompting
pub mod CallsAhead
pub mod Directing
-- The laws of moves:
pub mod OutcomeLaws
-- The definitions of moves, computed on small cases:
mod WorkedMoves
-- What the dispatcher answers, and the moves:
pub mod Moving
-- What the run stands at after a move:
pub mod RunSteps
-- Moves made one after the other, and what can be made next:
pub mod Replaying
pub mod NextCalls
-- Paths, and what was found:
pub mod Covering
pub mod Naming
-- Endings that are the same:
pub mod SameEndings
-- Places that are noted for marks:
pub mod Indexing
-- Why a walk ended before its end:
pub mod Faulting
-- How many files there are:
pub mod FileCounts
-- The law of the walk:
pub mod EndingLaws
