-- Glue. What a checker keeps of the lines that it took in.
use Rattle.std.specs.Prelude.{◌≡◌, ◌≢◌, ℕ, Bool, true, false, option_map, string_bytes, List, [], ◌∷◌, ◌++◌, length, nat_le, if◌then◌else◌, ◌⊎◌, Option, Some, None, Result, Ok, Err}
use Rattle.std.specs.Io.KnownBytes.{Consumes, IsAtEnd}
use Rattle.std.specs.List.{AllByRecursion}
use Rattle.uring_core.specs.Core.{FitsApart}
use Rattle.uring_core.specs.World.{requests_of}
use Rattle.uring_core.specs.Histories.{History, world}
use Rattle.uring_machine.specs.Machine.{Fits}
use Rattle.uring_core.specs.Recorded.{IsWrong, Meets, resumed}
use Rattle.uring_core.specs.declared.answer.Answer.{Answer}
use Rattle.uring_core.specs.declared.answer.Answer.TheVariants as answer
use Rattle.uring_core.specs.declared.step.Step.{Step}
use Rattle.uring_core.specs.declared.step.Step.TheVariants as step
use Rattle.uring_core.specs.declared.wanted.Refusal.TheVariants as refusal
use Rattle.uring_core.specs.declared.wanted.Wanted.{Wanted}
use Rattle.uring_core.specs.declared.wanted.Wanted.TheVariants.{Only}
use Rattle.uring_trace.specs.Explanations.{line_number}
use Rattle.uring_text.specs.KeptLine.{KeptLine, kept_of}
use Rattle.uring_text.specs.Lines.{Splits}
use Rattle.uring_trace.specs.Text.{text_of}
use Rattle.uring_text.specs.declared.trace_fault.TraceFault.{TraceFault}
use Rattle.uring_text.specs.declared.trace_fault.TraceFault.TheVariants as fault
use Rattle.uring_check.specs.Findings.{Found, Finding, IsWrongText, IsFinding, AreFound, lines_of, history_after, has_stopped, stops, judged, with_finding, verdict_of}
use Rattle.uring_trace.specs.Chosen.{chosen_told}
use Rattle.uring_trace.specs.Reasons.{found_text}
use Rattle.uring_check.specs.Cancels.{found_asked}
use Rattle.uring_check.specs.Posters.{next_poster, posters}
use Rattle.uring_check.specs.Reports.{missed_text, report, told_of, told_of_all, counted_with, steps_of, whom_told, whose_told, why_asked, why_told}
use Rattle.uring_check.specs.Rules.{AreJudgedBy, Rules, AllowedBy, CalledBy, IsPlain, entry_asked, is_apart}
use Rattle.uring_check.specs.declared.ends.Ends.TheVariants as ends
use Rattle.uring_check.specs.declared.checker.Checker.{Checker}
use Rattle.uring_check.specs.declared.follower.Follower.{Follower}
use Rattle.uring_check.specs.declared.follower.Follower.TheVariants.{Whole, Apart, Allowed}
use Rattle.uring_check.specs.declared.reading.Reading.{Reading}
use Rattle.uring_check.specs.declared.standing.StepStanding.{StepStanding}
use Rattle.uring_check.specs.declared.verdict.Verdict.{Verdict}
use Rattle.uring_check.specs.declared.verdict.Verdict.TheVariants as verdict

-- what stands before and after ` = `, which has the line's first `=`
pub record IsSplit (line before text : List ℕ) : Type 0 where
  pub whole : line ≡ before ++ 32 ∷ 61 ∷ 32 ∷ text
  pub first : AllByRecursion (λ b. b ≢ 61) before

-- the line has no first `=` with a space on either side
abbrev pub IsUnsplit : List ℕ → Type 0
IsUnsplit line = (before text : List ℕ) → IsSplit line before text → ⊥

-- one answer alone is called for to any step but these two
abbrev pub HasOneAnswer : Step → Type 0
HasOneAnswer (step.Begin count) = ⊥
HasOneAnswer (step.Finish n) = ⊥
HasOneAnswer _ = Unit {0}

-- by what a follower judges
abbrev pub rules_of : Follower → Rules
rules_of (Whole m) = record { setup = m.core.setup; ends = ends.Given }
rules_of (Apart c) = record { setup = c.setup; ends = ends.Any }
rules_of (Allowed c) = record { setup = c.setup; ends = ends.Allowed }

-- the follower fits a history: its machine does, or its core apart from what operations gave, whichever results are allowed
abbrev pub FitsBy : Follower → History → Type 0
FitsBy (Whole m) h = Fits m h
FitsBy (Apart c) h = FitsApart c h
FitsBy (Allowed c) h = FitsApart c h

-- What is found after a history of a step with the text of an answer, and what the follower then fits: `None` if the text is that of an answer that is called for.
abbrev pub IsJudged : Rules → History → Follower → Step → List ℕ → Option Wanted → Type 0
IsJudged g h m s text None =
    (a : Answer) × (text_of a ≡ text) × IsPlain a (is_apart g.ends) s × AllowedBy g h s a
    × FitsBy m ((s, a) ∷ h)
IsJudged g h m s text (Some wanted) =
    IsWrongText g h s text wanted × FitsBy m (resumed s (refusal.Wrong wanted) h)

-- the text is that of the one answer that is called for, or isn't
abbrev pub IsOneJudged : Answer → List ℕ → Option Wanted → Type 0
IsOneJudged x text None = text_of x ≡ text
IsOneJudged x text (Some wanted) = (wanted ≡ Only x) × (text_of x ≡ text → ⊥)

-- a follower judges, whatever the history that it fits
abbrev pub Judges : Follower → Follower → Step → List ℕ → Option Wanted → Type 0
Judges old new s text found =
    (h : History) → FitsBy old h → IsJudged (rules_of old) h new s text found

-- a refusal told that these answers are wanted, and the follower goes on from there
abbrev pub IsWanted : History → Follower → Step → Wanted → Type 0
IsWanted h m s wanted = IsWrong (CalledBy (rules_of m) h s) answer.Filled wanted
    × FitsBy m (resumed s (refusal.Wrong wanted) h)

-- either of two answers is wanted, and so a refusal makes nothing
pub record IsEither (wanted : Wanted) (one other : Answer) : Type 0 where
  pub meets : (a : Answer) → Meets wanted a → (a ≡ one) ⊎ (a ≡ other)
  pub one_meets : Meets wanted one
  pub other_meets : Meets wanted other
  pub nothing : (s : Step) (h : History) → resumed s (refusal.Wrong wanted) h ≡ h

-- What is asked before a step: how its request stands, whom a cancel chooses, whose completion is reaped next, how much is posted, and of which entry a result is to be one.
pub record IsStanding (g : Rules) (h : History) (s : Step) (x : StepStanding) : Type 0 where
  pub why : x.why ≡ why_asked g.setup.linux (requests_of (world g.setup h)) s
  pub chosen : option_map (λ text. string_bytes text) x.chosen ≡ chosen_told g.setup.linux (requests_of (world g.setup h)) s
  pub found : x.found ≡ found_asked g.setup.linux (requests_of (world g.setup h)) s
  pub poster : x.poster ≡ next_poster g.setup h
  pub posted : x.posted ≡ length (world g.setup h).completions.posted
  pub asked : x.asked ≡ entry_asked g h s

-- what is told of a wrong answer by what was asked, where a completion of this user data is wanted, or none
abbrev pub reasons_by : StepStanding → Option ℕ → List ℕ
reasons_by x completion =
    why_told x.why ++ whom_told (option_map (λ text. string_bytes text) x.chosen) ++ whom_told (option_map found_text x.found) ++ whose_told completion x.poster

-- the request of a step
abbrev pub number_in : Step → List ℕ
number_in (step.Issue n) = n ∷ []
number_in (step.Finish n) = n ∷ []
number_in _ = []

-- the request of a step that posted a completion, if so many were posted before it and after it
abbrev pub noted_poster : Step → ℕ → ℕ → List ℕ
noted_poster s before after = if nat_le after before then [] else number_in s

-- the checker's follower fits a history, and it knows whose completions were posted
abbrev pub Knows : Checker → History → Type 0
Knows c h = FitsBy c.follower h × (c.posters.items ≡ posters (rules_of c.follower).setup h)

-- The checker has looked at these lines by these rules, the newest first.
pub record LooksBy (g : Rules) (all : Bool) (lines : List (List ℕ)) (c : Checker) : Type 0 where
  pub found : List Found
  pub are : AreFound g all found
  pub lines_are : lines_of found ≡ lines
  pub is_all : c.is_all ≡ all
  pub same : rules_of c.follower ≡ g
  pub fits : Knows c (history_after found)
  pub numbered : c.number ≡ line_number (length found)
  pub counted : c.steps ≡ steps_of found
  pub decided : c.verdict ≡ verdict_of found
  pub stopped : c.is_over ≡ has_stopped all found
  pub told : string_bytes c.report ≡ told_of_all g found

-- whether the next line is the first one, which may say a set-up
abbrev pub awaits_first : List (List ℕ) → Bool
awaits_first [] = true
awaits_first (line ∷ before) = false

-- the checker has looked at the lines by the rules that there are; or the first one missed its set-up, and no other is looked at
abbrev pub LooksIf : Option Rules → Bool → List (List ℕ) → Checker → Type 0
LooksIf (Some g) all lines c = LooksBy g all lines c
LooksIf None all lines c =
    (c.is_over ≡ true) × (c.verdict ≡ verdict.Bad) × (string_bytes c.report ≡ missed_text)

-- The checker has looked at these lines, the newest first, of which the first may have said a set-up.
pub record Looks (given : Rules) (all : Bool) (lines : List (List ℕ)) (c : Checker) : Type 0 where
  pub rules : Option Rules
  pub ruled : AreJudgedBy given lines rules
  pub looked : LooksIf rules all lines c
  pub awaits : c.awaits ≡ awaits_first lines

-- the verdict on lines by rules, the newest first, and the report
pub record IsToldBy (g : Rules) (all : Bool) (lines : List (List ℕ)) (v : Verdict) (text : List ℕ) : Type 0 where
  pub found : List Found
  pub are : AreFound g all found
  pub lines_are : lines_of found ≡ lines
  pub decided : v ≡ verdict_of found
  pub reported : text ≡ report g found

abbrev pub IsToldIf : Option Rules → Bool → List (List ℕ) → Verdict → List ℕ → Type 0
IsToldIf (Some g) all lines v text = IsToldBy g all lines v text
IsToldIf None all lines v text = (v ≡ verdict.Bad) × (text ≡ missed_text)

-- the same by the rules that there are
pub record IsTold (given : Rules) (all : Bool) (lines : List (List ℕ)) (v : Verdict) (text : List ℕ) : Type 0 where
  pub rules : Option Rules
  pub ruled : AreJudgedBy given lines rules
  pub told : IsToldIf rules all lines v text

-- What a checker makes of a line that it looks at: the line has a finding, of which it keeps what it needs.
pub record Looked (old new : Checker) (line : List ℕ) (h : History) : Type 0 where
  pub finding : Finding
  pub is_so : IsFinding (rules_of old.follower) h line finding
  pub same : rules_of new.follower ≡ rules_of old.follower
  pub fits : Knows new (with_finding finding h)
  pub is_all : new.is_all ≡ old.is_all
  pub awaits : new.awaits ≡ old.awaits
  pub numbered : new.number ≡ old.number
  pub counted : new.steps ≡ counted_with finding old.steps
  pub decided : new.verdict ≡ judged old.verdict finding
  pub stopped : new.is_over ≡ stops old.is_all finding
  pub told : string_bytes new.report
      ≡ string_bytes old.report ++ told_of (rules_of old.follower) h old.number line finding

-- a line was looked at, whatever the history
abbrev pub LooksAt : Checker → Checker → List ℕ → Type 0
LooksAt old new line = (h : History) → Knows old h → Looked old new line h

-- The checker has looked at the lines of the bytes that have their ends, and this is what is kept of the unfinished one.
pub record Holds (g : Rules) (all : Bool) (kept : KeptLine) (c : Checker) (bytes : List ℕ) : Type 0 where
  pub whole : List (List ℕ)
  pub line : List ℕ
  pub splits : Splits bytes whole line
  pub keeps : kept ≡ kept_of line
  pub looks : Looks g all whole c

-- The reading has taken in these bytes.
abbrev pub Has : Rules → Bool → Reading → List ℕ → Type 0
Has g all r bytes = Holds g all r.line r.checker bytes

-- all bytes are taken in, or a fault came before
abbrev pub TakesIn : Rules → Bool → Result (Unit {0}) TraceFault → Option (List ℕ) → Reading
    → List ℕ → Type 0
TakesIn g all (Ok done) left r bytes = Has g all r bytes × IsAtEnd left
TakesIn g all (Err e) left r bytes = e ≢ fault.Write

-- what was read and taken in: the reader had `left_before` left and has `left_after`
abbrev pub ReadsIn : Rules → Bool → Result (Unit {0}) TraceFault → Option (List ℕ) → Option (List ℕ)
    → Reading → Type 0
ReadsIn g all answer left_before left_after r = (bytes : List ℕ)
    × Consumes left_before left_after bytes × TakesIn g all answer left_after r bytes
