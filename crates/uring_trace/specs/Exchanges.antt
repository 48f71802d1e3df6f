-- The lines of a trace, each with its answer. The language of a trace is our own rule.
use Rattle.std.specs.Prelude.{◌≡◌, ℕ, Bool, true, false, List, [], ◌∷◌, ◌++◌, Option, Some, None, IsTrue, codes, map}
use Rattle.std.specs.List.{AllByRecursion}
use Rattle.std.specs.Option.{option_to_list}
use Rattle.uring_entry.specs.Setup.{Setup}
use Rattle.uring_core.specs.Histories.{Event, history_of}
use Rattle.uring_core.specs.CalledFor.{IsLawful}
use Rattle.uring_machine.specs.Settling.{AreUnrefused}
use Rattle.uring_trace.specs.Spelling.{IsStep, IsBad}
use Rattle.uring_trace.specs.Text.{text_of}
use Rattle.uring_text.specs.Lines.{joined}

-- a line, and the step that it is with its answer, or none
pub record Exchange : Type 0 where
  pub line : List ℕ
  pub event : Option Event

-- the line is the step, or no step
abbrev pub IsReadAs : List ℕ → Option Event → Type 0
IsReadAs line None = IsBad line
IsReadAs line (Some event) = IsStep line event.0

-- How a trace is written: over this set-up, whether with its steps, and whether with memory enough, so that no answer refuses any.
pub record Manner : Type 0 where
  pub setup : Setup
  pub is_echo : Bool
  pub is_unrefused : Bool

-- what stands before the answer to a step: with the steps the line and ` = `, as in a recorded trace, and else nothing
abbrev pub step_text : Bool → List ℕ → List ℕ
step_text true line = line ++ codes " = "
step_text false line = []

-- what is written for a line: that it is bad, or the answer
abbrev pub answer_text : Bool → List ℕ → Option Event → List ℕ
answer_text is_echo line None = codes "bad line"
answer_text is_echo line (Some event) = step_text is_echo line ++ text_of event.1

-- Of exchanges, the newest first: the lines; the answers; the steps with their answers.

abbrev pub lines_of : List Exchange → List (List ℕ)
lines_of xs = map (λ x. x.line) xs

abbrev pub answers_of : Bool → List Exchange → List (List ℕ)
answers_of is_echo xs = map (λ x. answer_text is_echo x.line x.event) xs

-- in the order in which they happened
abbrev pub events_of : List Exchange → List Event
events_of [] = []
events_of (x ∷ before) = events_of before ++ option_to_list x.event

-- the exchanges answer their lines, each answer is called for by the steps before it, none says that memory was refused if there is enough, and the text is the answers, each with its end
pub record Answers (manner : Manner) (xs : List Exchange) (text : List ℕ) : Type 0 where
  pub each : AllByRecursion (λ x. IsReadAs x.line x.event) xs
  pub lawful : IsLawful manner.setup (history_of (events_of xs))
  pub unrefused : IsTrue manner.is_unrefused → AreUnrefused manner.setup [] (events_of xs)
  pub all : text ≡ joined (answers_of manner.is_echo xs)
