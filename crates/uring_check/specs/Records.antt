-- The lines of a recorded trace: each a step with the text of its answer. The form is our own rule.
use Rattle.std.specs.Prelude.{◌≡◌, ◌≢◌, ℕ, ◌≤◌, ◌⊎◌, true, List, [], ◌∷◌, ◌++◌, length}
use Rattle.std.specs.List.{AllByRecursion}
use Rattle.uring_core.specs.Histories.{Event, History}
use Rattle.uring_core.specs.declared.step.Step.{Step}
use Rattle.uring_text.specs.Remarks.{is_remark}
use Rattle.uring_trace.specs.Spelling.{IsStep}
use Rattle.uring_trace.specs.Text.{text_of}
use Rattle.uring_check.specs.Rules.{Rules, IsLawfulBy, IsPlain, is_apart}

-- The line is a step and a text for its answer, with ` = ` between them. It has at most 300 bytes, and its first `=` is this one.
pub record IsRecord (line : List ℕ) (s : Step) (text : List ℕ) : Type 0 where
  pub short : length line ≤ 300
  pub before : List ℕ
  pub whole : line ≡ before ++ 32 ∷ 61 ∷ 32 ∷ text
  pub first : AllByRecursion (λ b. b ≢ 61) before
  pub step : IsStep before s

-- the line is no step with a text for its answer
abbrev pub IsNoRecord : List ℕ → Type 0
IsNoRecord line = (s : Step) (text : List ℕ) → IsRecord line s text → ⊥

-- the line records the event: its step, and the text of its answer
abbrev pub Records : Rules → List ℕ → Event → Type 0
Records g line event = IsRecord line event.0 (text_of event.1) × IsPlain event.1 (is_apart g.ends) event.0

-- a line that is passed over
abbrev pub IsPassed : List ℕ → Type 0
IsPassed line = IsNoRecord line × (is_remark line ≡ true)

-- The lines, the newest first, record the events of a history, one each; those that are passed over record none.
abbrev pub AreRecorded : Rules → List (List ℕ) → History → Type 0
AreRecorded g [] h = h ≡ []
AreRecorded g (line ∷ before) h =
    (IsPassed line × AreRecorded g before h)
    ⊎ ((event : Event) × (past : History) × (h ≡ event ∷ past) × Records g line event × AreRecorded g before past)

-- The lines are the text of a lawful history.
abbrev pub IsLawfulText : Rules → List (List ℕ) → Type 0
IsLawfulText g lines = (h : History) × IsLawfulBy g h × AreRecorded g lines h
