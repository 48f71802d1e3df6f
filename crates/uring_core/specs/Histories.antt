-- Histories: the steps made on a new core or machine, each with its answer.
use Rattle.std.specs.Prelude.{List, [], ◌∷◌, false, reverse}
use Rattle.uring_entry.specs.Setup.{Setup}
use Rattle.uring_core.specs.World.{World, at_first, happens}
use Rattle.uring_core.specs.StepAnswers.{CalledForApart}
use Rattle.uring_core.specs.declared.step.Step.{Step}
use Rattle.uring_core.specs.declared.answer.Answer.{Answer}

-- a step and its answer
abbrev pub Event : Type 0
Event = Step × Answer

-- the events, the newest first
abbrev pub History : Type 0
History = List Event

-- what a history has made
abbrev pub world : Setup → History → World
world g [] = at_first
world g ((step, answer) ∷ before) = happens g (world g before) step answer

-- each answer is called for by what came before it, apart from what operations gave
abbrev pub IsLawfulApart : Setup → History → Type 0
IsLawfulApart g [] = Unit {0}
IsLawfulApart g ((step, answer) ∷ before) =
    CalledForApart g (world g before) step answer × IsLawfulApart g before

-- the history of events that are written in the order in which they happened
abbrev pub history_of : List Event → History
history_of events = reverse events

-- the same set-up, with the manual pages' rules
abbrev pub by_manual : Setup → Setup
by_manual g = record g { linux = false }
