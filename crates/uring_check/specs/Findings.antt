-- What a check finds of the lines of a recorded trace. That a check goes on after a wrong line, and stops at a bad one, is our own rule.
use Rattle.std.specs.Prelude.{◌≡◌, ℕ, Bool, true, false, not, List, [], ◌∷◌}
use Rattle.std.specs.List.{list_any}
use Rattle.uring_core.specs.Histories.{History}
use Rattle.uring_core.specs.Recorded.{Meets, resumed}
use Rattle.uring_core.specs.declared.answer.Answer.{Answer}
use Rattle.uring_core.specs.declared.step.Step.{Step}
use Rattle.uring_core.specs.declared.wanted.Refusal.TheVariants as refusal
use Rattle.uring_core.specs.declared.wanted.Wanted.{Wanted}
use Rattle.uring_text.specs.Remarks.{is_remark}
use Rattle.uring_trace.specs.Text.{text_of}
use Rattle.uring_check.specs.Records.{IsRecord, IsNoRecord, IsPassed}
use Rattle.uring_check.specs.Rules.{Rules, AllowedBy, IsCalled, IsPlain, is_apart}
use Rattle.uring_check.specs.declared.verdict.Verdict.{Verdict}
use Rattle.uring_check.specs.declared.verdict.Verdict.TheVariants as verdict

-- What is found of a line: it is passed over; it records this event, which is lawful; its answer isn't called for, and these are; it records nothing; or it wasn't looked at.
pub data Finding : Type 0 where
  Passed : Finding
  Right : (s : Step) → (a : Answer) → Finding
  Wrong : (s : Step) → (wanted : Wanted) → Finding
  Bad : Finding
  Skipped : Finding

-- a line with what is found of it
pub record Found : Type 0 where
  pub line : List ℕ
  pub finding : Finding

-- No answer with this text is called for, and exactly these are, of which the result is allowed.
pub record IsWrongText (g : Rules) (h : History) (s : Step) (text : List ℕ) (wanted : Wanted) : Type 0 where
  pub not_called : (a : Answer) → IsCalled g h s a → text_of a ≡ text → IsPlain a (is_apart g.ends) s → ⊥
  pub called : (a : Answer) → IsCalled g h s a → Meets wanted a
  pub only : (a : Answer) → Meets wanted a → AllowedBy g h s a → IsCalled g h s a

-- what goes before, with this finding: a right event, and of a wrong one the one answer that was called for counts as given; else the step counts as not made
abbrev pub with_finding : Finding → History → History
with_finding (Right s a) h = (s, a) ∷ h
with_finding (Wrong s wanted) h = resumed s (refusal.Wrong wanted) h
with_finding _ h = h

-- Of lines with their findings, the newest first: the lines, and the history that a check goes on with.

abbrev pub lines_of : List Found → List (List ℕ)
lines_of [] = []
lines_of (x ∷ before) = x.line ∷ lines_of before

abbrev pub history_after : List Found → History
history_after [] = []
history_after (x ∷ before) = with_finding x.finding (history_after before)

-- whether a check looks at no line after this finding: at a bad line, and at a wrong one unless all are asked for
abbrev pub stops : Bool → Finding → Bool
stops all Bad = true
stops all (Wrong s wanted) = not all
stops all _ = false

-- the finding is so in a world
abbrev pub IsFinding : Rules → History → List ℕ → Finding → Type 0
IsFinding g h line Passed = IsPassed line
IsFinding g h line (Right s a) =
    IsRecord line s (text_of a) × IsPlain a (is_apart g.ends) s × IsCalled g h s a
IsFinding g h line (Wrong s wanted) =
    (text : List ℕ) × IsRecord line s text × IsWrongText g h s text wanted
IsFinding g h line Bad = IsNoRecord line × (is_remark line ≡ false)
IsFinding g h line Skipped = ⊥

-- after a line at which the check stopped, none is looked at
abbrev pub IsFindingAfter : Bool → Rules → History → List ℕ → Finding → Type 0
IsFindingAfter true g h line finding = finding ≡ Skipped
IsFindingAfter false g h line finding = IsFinding g h line finding

abbrev pub has_stopped : Bool → List Found → Bool
has_stopped all xs = list_any (λ x. stops all x.finding) xs

-- Each line, the newest first, with what is found of it after those before.
abbrev pub AreFound : Rules → Bool → List Found → Type 0
AreFound g all [] = Unit {0}
AreFound g all (x ∷ before) =
    IsFindingAfter (has_stopped all before) g (history_after before) x.line x.finding
    × AreFound g all before

-- a fault, unless there was one before
abbrev pub first_fault : Verdict → Verdict → Verdict
first_fault verdict.Lawful v = v
first_fault before v = before

-- the verdict so far with one finding more: the first line that is wrong or bad decides
abbrev pub judged : Verdict → Finding → Verdict
judged v (Wrong s wanted) = first_fault v verdict.Wrong
judged v Bad = first_fault v verdict.Bad
judged v _ = v

abbrev pub verdict_of : List Found → Verdict
verdict_of [] = verdict.Lawful
verdict_of (x ∷ before) = judged (verdict_of before) x.finding
