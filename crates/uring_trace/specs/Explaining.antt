-- Glue. What an explainer keeps of the lines that it took in.
use Rattle.std.specs.Prelude.{◌≡◌, ℕ, ◌+◌, ◌<◌, Bool, List, [], ◌∷◌, ◌++◌, ◌||◌, true, length, Option, Result, Ok, Err, IsTrue}
use Rattle.std.specs.List.{list_any}
use Rattle.std.specs.Io.KnownBytes.{Appends}
use Rattle.std.specs.Option.{option_to_list}
use Rattle.uring_trace.specs.declared.explainer.Explainer.{Explainer}
use Rattle.uring_text.specs.declared.trace_fault.TraceFault.{TraceFault}
use Rattle.uring_text.specs.declared.trace_fault.TraceFault.TheVariants as fault
use Rattle.uring_entry.specs.Setup.{Setup}
use Rattle.uring_core.specs.Histories.{History, world, history_of}
use Rattle.uring_machine.specs.Machine.{Machine, Fits}
use Rattle.uring_machine.specs.Settling.{AreUnrefused}
use Rattle.uring_core.specs.declared.step.Step.{Step}
use Rattle.uring_core.specs.declared.answer.Answer.{Answer}
use Rattle.uring_trace.specs.Text.{text_of}
use Rattle.uring_trace.specs.Reasons.{reasons_text}
use Rattle.uring_text.specs.Lines.{ended, Splits}
use Rattle.uring_text.specs.KeptLine.{KeptLine, kept_of}
use Rattle.uring_trace.specs.Sessions.{with_event}
use Rattle.uring_trace.specs.Shown.{shown}
use Rattle.uring_trace.specs.declared.questions.Question.{Question}
use Rattle.uring_trace.specs.Explanations.{Said, Saying, IsSaid, event_in, lines_in, events_in, Telling, telling_on, Explains, ExplainsWholeBy, WritesBoth, told_of, noted_of, line_number, is_bad}

-- What a line is told and noted as is appended, and a step is made if the line is one; if memory is granted, its answer refuses none.
pub record AppendsLine (granted : Type 0) (old new : Machine) (number : ℕ) (was_bad bad : Bool) (line before after noted_before noted_after : List ℕ) : Type 0 where
  pub said : Said
  pub read : IsSaid line said
  pub told : (h : History) → Fits old h
      → after ≡ before ++ told_of old.core.setup (world old.core.setup h) said
  pub noted : noted_after ≡ noted_before ++ noted_of number line said
  pub bad_line : bad ≡ (was_bad || is_bad said)
  pub same : new.core.setup ≡ old.core.setup
  pub fits : (h : History) → Fits old h → Fits new (with_event (event_in said) h)
  pub unrefused : granted → (h : History) → Fits old h
      → AreUnrefused old.core.setup h (option_to_list (event_in said))

-- A step was made, and its answer with the reason is appended as a line; if memory is granted, the answer refuses none.
pub record TellsStep (granted : Type 0) (old new : Machine) (step : Step) (before after : List ℕ) : Type 0 where
  pub answer : Answer
  pub told : (h : History) → Fits old h
      → after
      ≡ before ++ ended (text_of answer ++ reasons_text old.core.setup (world old.core.setup h) step answer)
  pub same : new.core.setup ≡ old.core.setup
  pub fits : (h : History) → Fits old h → Fits new ((step, answer) ∷ h)
  pub unrefused : granted → (h : History) → Fits old h
      → AreUnrefused old.core.setup h ((step, answer) ∷ [])

-- What a question asks for is appended as a line.
abbrev pub TellsShown : Machine → Question → List ℕ → List ℕ → Type 0
TellsShown m question before after = (h : History) → Fits m h
    → after ≡ before ++ ended (shown m.core.setup (world m.core.setup h) question)

-- What a write of two texts did: at `Ok` it appended both, and else together less, each from its beginning on.
abbrev pub WritesTexts : Result (Unit {0}) TraceFault → List ℕ → List ℕ → List ℕ → List ℕ → Type 0
WritesTexts (Ok done) text notes written noted = (written ≡ text) × (noted ≡ notes)
WritesTexts (Err e) text notes written noted =
    (e ≡ fault.Write) × (more : List ℕ) × (more_notes : List ℕ)
    × (0 < length more + length more_notes) × (text ≡ written ++ more)
    × (notes ≡ noted ++ more_notes)

-- what was written to the two streams, and that it is so much of these texts
abbrev pub WritesPair : Option (List ℕ) → Option (List ℕ) → Option (List ℕ) → Option (List ℕ)
    → Result (Unit {0}) TraceFault → List ℕ → List ℕ → Type 0
WritesPair w w' e e' result text notes = (written : List ℕ) × (noted : List ℕ)
    × Appends w w' written × Appends e e' noted × WritesTexts result text notes written noted

-- The explainer's invariant, over its fields: these bytes have been taken in, text and notes are what was told and noted so far, and `kept` is what is kept of the unfinished line, which has this number.
pub record Explaining (telling : Telling) (machine : Machine) (kept : KeptLine) (number : ℕ) (bad : Bool) (bytes text notes : List ℕ) : Type 0 where
  pub sayings : List Saying
  pub line : List ℕ
  pub explains : Explains telling sayings text notes
  pub splits : Splits bytes (lines_in sayings) line
  pub keeps : kept ≡ kept_of line
  pub numbered : number ≡ line_number (length sayings)
  pub bad_lines : bad ≡ list_any (λ x. is_bad x.said) sayings
  pub same : machine.core.setup ≡ telling.setup
  pub fits : Fits machine (history_of (events_in sayings))

-- no answer is to refuse memory only where it is granted
abbrev pub IsGrantedTo : Telling → Type 0 → Type 0
IsGrantedTo telling granted = IsTrue telling.is_unrefused → granted

-- The explainer has taken in these bytes, and told and noted this so far.
abbrev pub HasToldBy : Telling → Explainer → List ℕ → List ℕ → List ℕ → Type 0
HasToldBy telling s bytes text notes =
    Explaining telling s.machine s.line s.number s.has_bad bytes text notes

-- The explainer has taken in these bytes to their end, and its machine is as the steps in them left it.
abbrev pub HasEndedBy : Telling → Explainer → List ℕ → List ℕ → List ℕ → Type 0
HasEndedBy telling s bytes text notes = (whole : ExplainsWholeBy telling s.has_bad bytes text notes)
    × (s.machine.core.setup ≡ telling.setup) × Fits s.machine (history_of (events_in whole.0))

-- Both over a set-up: nothing is known of memory, or no answer so far says that it was refused.

abbrev pub HasTold : Setup → Explainer → List ℕ → List ℕ → List ℕ → Type 0
HasTold setup = HasToldBy (telling_on setup)

abbrev pub HasEnded : Setup → Explainer → List ℕ → List ℕ → List ℕ → Type 0
HasEnded setup = HasEndedBy (telling_on setup)

abbrev pub HasToldUnrefused : Setup → Explainer → List ℕ → List ℕ → List ℕ → Type 0
HasToldUnrefused setup = HasToldBy (record { setup = setup; is_unrefused = true })

abbrev pub HasEndedUnrefused : Setup → Explainer → List ℕ → List ℕ → List ℕ → Type 0
HasEndedUnrefused setup = HasEndedBy (record { setup = setup; is_unrefused = true })

-- These bytes were to be taken in, and this is what has been written: all that was told and noted so far, or what a fault allows.
abbrev pub TookBoth : Telling → Result (Unit {0}) TraceFault → Explainer → List ℕ → List ℕ → List ℕ
    → Type 0
TookBoth telling (Ok done) s bytes text notes = HasToldBy telling s bytes text notes
TookBoth telling (Err e) s bytes text notes = WritesBoth telling (Err e) bytes text notes

-- what was written to the two streams for the bytes that were given, after what was told and noted before
abbrev pub WroteBoth : Option (List ℕ) → Option (List ℕ) → Option (List ℕ) → Option (List ℕ)
    → List ℕ → List ℕ → (List ℕ → List ℕ → Type 0) → Type 0
WroteBoth w w' e e' told noted P = (written : List ℕ) × (more_notes : List ℕ) × Appends w w' written
    × Appends e e' more_notes × P (told ++ written) (noted ++ more_notes)
