-- Recorded traces whose finishes tell their result alone, and the histories that they may be of.
use Rattle.std.specs.Prelude.{◌≡◌, ℕ, ◌⊎◌, false, List, [], ◌∷◌, ◌++◌, Option, Some, None, codes, drop, length, map, reverse}
use Rattle.std.specs.Fmt.{decimal, signed_decimal}
use Rattle.uring_entry.specs.Layout.{Cqe}
use Rattle.uring_entry.specs.Requests.{no_bytes}
use Rattle.uring_entry.specs.Setup.{Setup}
use Rattle.uring_core.specs.Core.{Core, FitsApart}
use Rattle.uring_core.specs.Histories.{Event, History, world, history_of, IsLawfulApart}
use Rattle.uring_core.specs.StepAnswers.{CalledForApart}
use Rattle.uring_core.specs.declared.answer.Answer.{Answer}
use Rattle.uring_core.specs.declared.answer.Answer.TheVariants as answer
use Rattle.uring_core.specs.declared.step.Step.{Step}
use Rattle.uring_core.specs.declared.step.Step.TheVariants as step
use Rattle.uring_effect_points.specs.Effects.{IsLawfulEarly}
use Rattle.uring_text.specs.Completions.{completion_text}
use Rattle.uring_text.specs.Remarks.{is_remark}
use Rattle.uring_text.specs.Spelling.{AreBytes, IsFile}
use Rattle.uring_trace.specs.Text.{text_of}
use Rattle.uring_check.specs.Records.{IsRecord, IsNoRecord, IsPassed}
use Rattle.uring_check.specs.SetupLines.{IsSaid}
use Rattle.uring_check.specs.declared.setup_line.Said.{Said}
use Rattle.uring_check.specs.declared.setup_line.Said.TheVariants.{Nothing, Says, Misses}
use Rattle.uring_effect_points.specs.Bare.{bare, blank, blank_answer, blank_completion}
use Rattle.uring_effect_points.specs.declared.decision.EffectsFound.{EffectsFound}
use Rattle.uring_effect_points.specs.declared.decision.EffectsFound.TheVariants as found
use Rattle.uring_observed_text.specs.Told.{lines_in}
use Rattle.uring_observed_text.specs.declared.early.Early.{Early}
use Rattle.uring_observed_text.specs.declared.early.Early.TheVariants as early
use Rattle.uring_observed_text.specs.declared.reading.Done.{Done}
use Rattle.uring_observed_text.specs.declared.reading.Done.TheVariants as done
use Rattle.uring_observed_text.specs.declared.sight.Sight.{Sight}
use Rattle.uring_observed_text.specs.declared.sight.Sight.TheVariants as sight

-- The result of a finish has 32 bits and a sign, and a completion has 64 bytes. Our own rule
abbrev pub IsSized : Step → Answer → Type 0
IsSized (step.Finish n) (answer.Ended res bytes) = IsFile res
IsSized step.Reap (answer.Reaped c) = AreBytes c.payload 64 64
IsSized s a = Unit {0}

-- the line is the event: its step, and the text of its answer
abbrev pub IsWritten : List ℕ → Event → Type 0
IsWritten line event = IsRecord line event.0 (text_of event.1) × IsSized event.0 event.1

-- The lines, the newest first, are the events of a history, one each; those that are passed over are none. The text of a finish tells no bytes, so the lines may be those of many histories.
abbrev pub AreWritten : List (List ℕ) → History → Type 0
AreWritten [] h = h ≡ []
AreWritten (line ∷ before) h =
    (IsPassed line × AreWritten before h)
    ⊎ ((event : Event) × (past : History) × (h ≡ event ∷ past) × IsWritten line event × AreWritten before past)

-- What is found of lines, the newest first: they are those of a history that is lawful by early effects; of none that is lawful apart from what operations gave; of none that is lawful by early effects; nothing is claimed; or they are those of no history at all.
abbrev pub IsEarlyOf : Setup → List (List ℕ) → Early → Type 0
IsEarlyOf g lines (early.Lawful steps) = (h : History) × IsLawfulEarly g h × AreWritten lines h
IsEarlyOf g lines (early.Wrong number) = (h : History) → IsLawfulApart g h → AreWritten lines h → ⊥
IsEarlyOf g lines early.Unlawful = (h : History) → IsLawfulApart g h → AreWritten lines h → ⊥
IsEarlyOf g lines early.Unexplained = (h : History) → IsLawfulEarly g h → AreWritten lines h → ⊥
IsEarlyOf g lines early.GaveUp = Unit {0}
IsEarlyOf g lines (early.Bad number) = (h : History) → AreWritten lines h → ⊥

-- the same by what the first line says of the set-up: the one that is given counts if it says none, and if it misses one it is bad
abbrev pub IsEarlyBy : Setup → List (List ℕ) → Said → Early → Type 0
IsEarlyBy given lines Nothing found = IsEarlyOf given (reverse lines) found
IsEarlyBy given lines (Says g) found = IsEarlyOf g (reverse lines) found
IsEarlyBy given lines Misses found = found ≡ early.Bad 1

-- what is found of lines, the oldest first
abbrev pub IsEarlyIn : Setup → List (List ℕ) → Early → Type 0
IsEarlyIn given [] found = ⊥
IsEarlyIn given (first ∷ rest) found =
    (said : Said) × IsSaid first said × IsEarlyBy given (first ∷ rest) said found

-- what is found of bytes
abbrev pub IsEarlyText : Setup → List ℕ → Early → Type 0
IsEarlyText given bytes found = IsEarlyIn given (lines_in bytes) found

-- Glue. What was made of a step with the text of an answer after events of which a core knows no bytes.

-- any answer of this text that is called for there is this one, but for the bytes of a finish
abbrev pub IsOnlyWritten : Setup → History → Step → List ℕ → Answer → Type 0
IsOnlyWritten g h s text a = (b : Answer) → CalledForApart g (world g h) s (blank_answer s b)
    → text_of b ≡ text → IsSized s b → ◌≡◌ {A = Event} (bare (s, b)) (bare (s, a))

-- none is called for there
abbrev pub IsNeverWritten : Setup → History → Step → List ℕ → Type 0
IsNeverWritten g h s text = (b : Answer) → CalledForApart g (world g h) s (blank_answer s b)
    → text_of b ≡ text → IsSized s b → ⊥

abbrev pub IsWrittenAs : Core → History → Step → List ℕ → Sight → Type 0
IsWrittenAs core h s text (sight.Shown t a) = (t ≡ s) × (text_of a ≡ text) × IsSized s a
    × IsOnlyWritten core.setup h s text a × FitsApart core (blank (s, a) ∷ h)
IsWrittenAs core h s text sight.Wrong = IsNeverWritten core.setup h s text
IsWrittenAs core h s text _ = ⊥

-- what was made of a line there
abbrev pub IsWrittenSight : Core → History → List ℕ → Sight → Type 0
IsWrittenSight core h line sight.Passed = IsPassed line × FitsApart core h
IsWrittenSight core h line (sight.Shown s a) = IsWritten line (s, a)
    × IsOnlyWritten core.setup h s (text_of a) a × FitsApart core (blank (s, a) ∷ h)
IsWrittenSight core h line sight.Wrong =
    (s : Step) × (text : List ℕ) × IsRecord line s text × IsNeverWritten core.setup h s text
IsWrittenSight core h line sight.Hidden = ⊥
IsWrittenSight core h line sight.Bad = IsNoRecord line × (is_remark line ≡ false)

-- what is called for to it has no bytes
abbrev pub HasNoBytes : Step → Type 0
HasNoBytes (step.Finish n) = ⊥
HasNoBytes step.Reap = ⊥
HasNoBytes s = Unit {0}

-- what a finish may be answered, without bytes
abbrev pub IsFinishAnswer : Answer → Type 0
IsFinishAnswer answer.NotRunning = Unit {0}
IsFinishAnswer (answer.Ended res bytes) = bytes ≡ no_bytes
IsFinishAnswer _ = ⊥

-- a completion that is this one but for its bytes, and has this text
pub record HasText (c : Cqe) (text : List ℕ) (d : Cqe) : Type 0 where
  pub same : blank_completion d ≡ blank_completion c
  pub sized : AreBytes d.payload 64 64
  pub text_is : completion_text d ≡ text

-- 64 bytes are these, with zeros after them
abbrev pub IsPadded : Option (List ℕ) → List ℕ → Type 0
IsPadded None room = ⊥
IsPadded (Some bytes) room = room ≡ bytes ++ drop (length bytes) no_bytes

-- what the text of a completion has before its bytes
abbrev pub front_of : Cqe → List ℕ
front_of c = codes "cqe " ++ decimal c.user_data ++ 32 ∷ [] ++ signed_decimal c.res ++ 32 ∷ []

-- a completion that is this one but for its bytes, and the only such one that may have this text
pub record CompletesTo (c : Cqe) (text : List ℕ) (d : Cqe) : Type 0 where
  pub same : blank_completion d ≡ blank_completion c
  pub sized : AreBytes d.payload 64 64
  pub only : (e : Cqe) → HasText c text e → e ≡ d

-- what was made of a text after which this completion without bytes is reaped
abbrev pub IsCompleted : Cqe → List ℕ → Sight → Type 0
IsCompleted c text (sight.Shown s a) = (d : Cqe) × (s ≡ step.Reap) × (a ≡ answer.Reaped d)
    × (blank_completion d ≡ c) × HasText c text d × ((e : Cqe) → HasText c text e → e ≡ d)
IsCompleted c text sight.Wrong = (e : Cqe) → blank_completion e ≡ c → HasText c text e → ⊥
IsCompleted c text _ = ⊥

-- Glue. The lines of events, and all that they may be of.
pub record ReadsWritten (g : Setup) (lines : List (List ℕ)) (h : History) : Type 0 where
  pub written : AreWritten lines h
  pub only : (k : History) → IsLawfulApart g k → AreWritten lines k
      → map bare k ≡ map bare h

-- What was read of lines, the oldest first.
abbrev pub IsReadWritten : Setup → List (List ℕ) → List Event → Done → Type 0
IsReadWritten g lines events done.All = ReadsWritten g (reverse lines) (history_of events)
IsReadWritten g lines events (done.Wrong place) =
    (k : History) → IsLawfulApart g k → AreWritten (reverse lines) k → ⊥
IsReadWritten g lines events (done.Hidden place) = ⊥
IsReadWritten g lines events (done.Bad place) = (k : History) → AreWritten (reverse lines) k → ⊥

-- what is found of a trace of so many steps, by what is found of its events
abbrev pub early_of : EffectsFound → ℕ → Early
early_of found.Lawful steps = early.Lawful steps
early_of found.Unlawful steps = early.Unlawful
early_of found.Unexplained steps = early.Unexplained
early_of found.GaveUp steps = early.GaveUp
