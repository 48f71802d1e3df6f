-- Answers that were recorded elsewhere: each is called for or isn't, and a wrong one makes a list unlawful.
use Rattle.std.specs.Prelude.{ℕ, List, ◌⊎◌}
use Rattle.uring_entry.specs.Setup.{Setup}
use Rattle.uring_core.specs.World.{World}
use Rattle.uring_core.specs.StepAnswers.{CalledForApart}
use Rattle.uring_core.specs.CalledFor.{CalledFor, IsLawful}
use Rattle.uring_core.specs.Histories.{Event, IsLawfulApart, history_of}
use Rattle.uring_core.specs.Recorded.{IsFirstWrongAnswer, IsFirstWrongApart}
use Rattle.uring_core.specs.declared.step.Step.{Step}
use Rattle.uring_core.specs.declared.answer.Answer.{Answer}
use Rattle.uring_core.specs.declared.wanted.Wanted.{Wanted}

-- An answer is called for, or isn't: also in worlds that no history makes.
abbrev pub CalledIsDecided : Type 0
CalledIsDecided =
    (g : Setup) (w : World) (s : Step) (a : Answer) → CalledFor g w s a ⊎ (CalledFor g w s a → ⊥)

-- the same apart from what operations give
abbrev pub CalledIsDecidedApart : Type 0
CalledIsDecidedApart = (g : Setup) (w : World) (s : Step) (a : Answer)
    → CalledForApart g w s a ⊎ (CalledForApart g w s a → ⊥)

-- A list of which some answer is the first wrong one is no lawful history.
abbrev pub WrongIsUnlawful : Setup → Type 0
WrongIsUnlawful g = (events : List Event) (place : ℕ) (wanted : Wanted)
    → IsFirstWrongAnswer g events place wanted → IsLawful g (history_of events) → ⊥

-- the same apart from what operations give
abbrev pub WrongIsUnlawfulApart : Setup → Type 0
WrongIsUnlawfulApart g = (events : List Event) (place : ℕ) (wanted : Wanted)
    → IsFirstWrongApart g events place wanted → IsLawfulApart g (history_of events) → ⊥
