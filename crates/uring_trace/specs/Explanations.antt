-- The lines of a trace, each with its answer and its reason. The language of explanations is our own rule.
use Rattle.std.specs.Prelude.{◌≡◌, ℕ, ◌+◌, ◌-◌, ◌^◌, ◌<◌, ◌⊎◌, min, Bool, true, false, List, [], ◌∷◌, ◌++◌, length, map, codes, Option, Some, None, Result, Ok, Err, IsTrue}
use Rattle.std.specs.Fmt.{decimal}
use Rattle.std.specs.List.{AllByRecursion, list_any}
use Rattle.std.specs.Option.{option_to_list}
use Rattle.std.specs.Io.KnownBytes.{Consumes, Appends, IsAtEnd}
use Rattle.uring_entry.specs.Setup.{Setup}
use Rattle.uring_core.specs.World.{World}
use Rattle.uring_core.specs.Histories.{Event, world, history_of}
use Rattle.uring_core.specs.CalledFor.{IsLawful}
use Rattle.uring_machine.specs.Settling.{AreUnrefused}
use Rattle.uring_text.specs.declared.trace_fault.TraceFault.{TraceFault}
use Rattle.uring_text.specs.declared.trace_fault.TraceFault.TheVariants as fault
use Rattle.uring_trace.specs.Text.{text_of}
use Rattle.uring_text.specs.Remarks.{is_remark}
use Rattle.uring_text.specs.Lines.{ended, Splits, with_last}
use Rattle.uring_trace.specs.Spelling.{IsStep, IsBad}
use Rattle.uring_trace.specs.Questions.{IsQuestion, IsNoQuestion}
use Rattle.uring_trace.specs.Flaws.{line_flaw}
use Rattle.uring_trace.specs.declared.flaws.Language.TheVariants as language
use Rattle.uring_trace.specs.Shown.{shown}
use Rattle.uring_trace.specs.declared.questions.Question.{Question}
use Rattle.uring_trace.specs.Reasons.{reasons_text}

-- What a line is: a step, with its answer; a question of what stands; a remark; or none of these.
pub data Said : Type 0 where
  Made : Event → Said
  Asked : Question → Said
  Remark : Said
  Bad : Said

-- a line, and what it is
pub record Saying : Type 0 where
  pub line : List ℕ
  pub said : Said

-- the line is this
abbrev pub IsSaid : List ℕ → Said → Type 0
IsSaid line (Made event) = IsStep line event.0
IsSaid line (Asked question) = IsQuestion line question
IsSaid line Remark = is_remark line ≡ true
IsSaid line Bad = IsBad line × (is_remark line ≡ false) × IsNoQuestion line

-- the step that a line is, with its answer
abbrev pub event_in : Said → Option Event
event_in (Made event) = Some event
event_in (Asked question) = None
event_in Remark = None
event_in Bad = None

-- Of lines, the newest first: the lines alone, and the steps with their answers in the order in which they happened.

abbrev pub lines_in : List Saying → List (List ℕ)
lines_in xs = map (λ x. x.line) xs

abbrev pub events_in : List Saying → List Event
events_in [] = []
events_in (x ∷ before) = events_in before ++ option_to_list (event_in x.said)

-- what is told of a line in this world: of a step its answer with the reason, of a question what it asks for, of a remark nothing, and of any other that it is bad
abbrev pub told_of : Setup → World → Said → List ℕ
told_of g w (Made event) = ended (text_of event.1 ++ reasons_text g w event.0 event.1)
told_of g w (Asked question) = ended (shown g w question)
told_of g w Remark = []
told_of g w Bad = ended (codes "bad line")

-- the note that the line with this number is bad, and what is wrong with it
abbrev pub bad_note : ℕ → List ℕ → List ℕ
bad_note number line =
    codes "uring: line " ++ decimal number ++ codes ": bad line: "
    ++ ended (line_flaw language.Questions line)

-- what is noted of a line with this number: only that it is bad, and why
abbrev pub noted_of : ℕ → List ℕ → Said → List ℕ
noted_of number line (Made event) = []
noted_of number line (Asked question) = []
noted_of number line Remark = []
noted_of number line Bad = bad_note number line

-- the number of a line after so many others, from 1 on; 2^64 - 1 is the number of every later one
abbrev pub line_number : ℕ → ℕ
line_number before = min (before + 1) (2 ^ 64 - 1)

-- Of lines, the newest first: what is told of each by the world before it, and what is noted.

abbrev pub explained : Setup → List Saying → List ℕ
explained g [] = []
explained g (x ∷ before) =
    explained g before ++ told_of g (world g (history_of (events_in before))) x.said

abbrev pub notes_of : List Saying → List ℕ
notes_of [] = []
notes_of (x ∷ before) = notes_of before ++ noted_of (line_number (length before)) x.line x.said

-- whether a line is bad
abbrev pub is_bad : Said → Bool
is_bad (Made event) = false
is_bad (Asked question) = false
is_bad Remark = false
is_bad Bad = true

-- How a trace is explained: over this set-up, and whether with memory enough, so that no answer refuses any.
pub record Telling : Type 0 where
  pub setup : Setup
  pub is_unrefused : Bool

-- nothing is known of memory
abbrev pub telling_on : Setup → Telling
telling_on setup = record { setup = setup; is_unrefused = false }

-- The lines are explained: each answer is called for by the steps before it, none says that memory was refused if there is enough, the text is what is told of each line, and the notes are those of the bad ones.
pub record Explains (telling : Telling) (xs : List Saying) (text notes : List ℕ) : Type 0 where
  pub each : AllByRecursion (λ x. IsSaid x.line x.said) xs
  pub lawful : IsLawful telling.setup (history_of (events_in xs))
  pub unrefused : IsTrue telling.is_unrefused → AreUnrefused telling.setup [] (events_in xs)
  pub told : text ≡ explained telling.setup xs
  pub noted : notes ≡ notes_of xs

-- text and notes explain every line of the bytes, of which the last may lack its end; and whether some line is bad
abbrev pub ExplainsWholeBy : Telling → Bool → List ℕ → List ℕ → List ℕ → Type 0
ExplainsWholeBy telling bad bytes text notes = (xs : List Saying) × (lines : List (List ℕ))
    × (rest : List ℕ) × Explains telling xs text notes × Splits bytes lines rest
    × (lines_in xs ≡ with_last lines rest) × (bad ≡ list_any (λ x. is_bad x.said) xs)

-- the same over a set-up, and nothing is known of memory
abbrev pub ExplainsWhole : Setup → Bool → List ℕ → List ℕ → List ℕ → Type 0
ExplainsWhole setup = ExplainsWholeBy (telling_on setup)

-- text and notes explain every line of the bytes that has its end
abbrev pub ExplainsEnded : Telling → List ℕ → List ℕ → List ℕ → Type 0
ExplainsEnded telling bytes text notes = (xs : List Saying) × (rest : List ℕ)
    × Explains telling xs text notes × Splits bytes (lines_in xs) rest

-- text and notes explain the first lines of the bytes
abbrev pub ExplainsBeginning : Telling → List ℕ → List ℕ → List ℕ → Type 0
ExplainsBeginning telling bytes text notes = (first : List ℕ) × (after : List ℕ) × (xs : List Saying)
    × Explains telling xs text notes × Splits first (lines_in xs) [] × (bytes ≡ first ++ after)

-- text and notes together lack something of what explains lines of the bytes
abbrev pub ExplainsLess : Telling → List ℕ → List ℕ → List ℕ → Type 0
ExplainsLess telling bytes text notes =
    (more : List ℕ) × (more_notes : List ℕ) × (0 < length more + length more_notes)
    × (ExplainsBeginning telling bytes (text ++ more) (notes ++ more_notes) ⊎ ((bad : Bool) × ExplainsWholeBy telling bad bytes (text ++ more) (notes ++ more_notes)))

-- what is written, by what explain returns
abbrev pub WritesBoth : Telling → Result Bool TraceFault → List ℕ → List ℕ → List ℕ → Type 0
WritesBoth telling (Ok bad) bytes text notes = ExplainsWholeBy telling bad bytes text notes
WritesBoth telling (Err fault.Read) bytes text notes = ExplainsEnded telling bytes text notes
WritesBoth telling (Err fault.Write) bytes text notes = ExplainsLess telling bytes text notes
WritesBoth telling (Err fault.Memory) bytes text notes = ExplainsBeginning telling bytes text notes

-- at the end the reader has nothing left
abbrev pub ReadsWhole : Result Bool TraceFault → Option (List ℕ) → Type 0
ReadsWhole (Ok bad) left = IsAtEnd left
ReadsWhole (Err fault) left = Unit {0}

-- What explain, told in this way, read and wrote: what the reader had left before and after, what the writer of answers held, and what the writer of notes held.
pub record IsExplained (telling : Telling) (result : Result Bool TraceFault) (left_before left_after held_before held_after notes_before notes_after : Option (List ℕ)) : Type 0 where
  pub bytes : List ℕ
  pub text : List ℕ
  pub notes : List ℕ
  pub consumed : Consumes left_before left_after bytes
  pub appended : Appends held_before held_after text
  pub noted : Appends notes_before notes_after notes
  pub written : WritesBoth telling result bytes text notes
  pub whole : ReadsWhole result left_after
