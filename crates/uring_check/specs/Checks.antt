-- What a check reads, returns and writes.
use Rattle.std.specs.Prelude.{◌≡◌, ℕ, ◌<◌, Bool, List, [], ◌++◌, length, Option, Some, None, Result, Ok, Err}
use Rattle.std.specs.Io.KnownBytes.{Consumes, Appends, IsAtEnd}
use Rattle.uring_text.specs.Lines.{Splits, with_last}
use Rattle.uring_text.specs.declared.trace_fault.TraceFault.{TraceFault}
use Rattle.uring_text.specs.declared.trace_fault.TraceFault.TheVariants as fault
use Rattle.uring_check.specs.Findings.{Found, AreFound, lines_of, verdict_of}
use Rattle.uring_check.specs.Records.{IsLawfulText}
use Rattle.uring_check.specs.Reports.{missed_text, report}
use Rattle.uring_check.specs.Rules.{AreJudgedBy, Rules}
use Rattle.uring_check.specs.declared.verdict.Verdict.{Verdict}
use Rattle.uring_check.specs.declared.verdict.Verdict.TheVariants as verdict

-- the lines of the bytes, the newest first: those that have their ends, and a rest without one if it has some byte
abbrev pub AreLinesOf : List ℕ → List (List ℕ) → Type 0
AreLinesOf bytes lines = (whole : List (List ℕ)) × (rest : List ℕ) × Splits bytes whole rest
    × (lines ≡ with_last whole rest)

-- What a verdict says of lines as a whole: that they are the text of a lawful history, or that they are that of none.
abbrev pub Says : Rules → List (List ℕ) → Verdict → Type 0
Says g lines verdict.Lawful = IsLawfulText g lines
Says g lines _ = IsLawfulText g lines → ⊥

-- The verdict on lines by rules, and the report: every line has its finding, of which the first wrong or bad one decides.
pub record IsReported (g : Rules) (all : Bool) (lines : List (List ℕ)) (text : List ℕ) (v : Verdict) : Type 0 where
  pub found : List Found
  pub are : AreFound g all found
  pub lines_are : lines_of found ≡ lines
  pub decided : v ≡ verdict_of found
  pub reported : text ≡ report g found
  pub says : Says g lines v

-- the same by the rules that there are; if the first line misses its set-up it is bad, and nothing else is looked at
abbrev pub IsReportedBy : Option Rules → Bool → List (List ℕ) → List ℕ → Verdict → Type 0
IsReportedBy (Some g) all lines text v = IsReported g all lines text v
IsReportedBy None all lines text v = (v ≡ verdict.Bad) × (text ≡ missed_text)

-- The verdict on bytes and the report: their lines are judged by the rules that are given, or with the set-up that the first one says.
pub record IsVerdict (given : Rules) (all : Bool) (bytes text : List ℕ) (v : Verdict) : Type 0 where
  pub lines : List (List ℕ)
  pub are_lines : AreLinesOf bytes lines
  pub rules : Option Rules
  pub ruled : AreJudgedBy given lines rules
  pub reported : IsReportedBy rules all lines text v

-- what is written, by what a check returns: nothing if it failed before
abbrev pub Writes : Rules → Bool → Result Verdict TraceFault → List ℕ → List ℕ → Type 0
Writes g all (Ok v) bytes text = IsVerdict g all bytes text v
Writes g all (Err fault.Read) bytes text = text ≡ []
Writes g all (Err fault.Memory) bytes text = text ≡ []
Writes g all (Err fault.Write) bytes text =
    (v : Verdict) × (more : List ℕ) × (0 < length more) × IsVerdict g all bytes (text ++ more) v

-- the reader has nothing left, unless it failed or memory was refused
abbrev pub ReadsAll : Result Verdict TraceFault → Option (List ℕ) → Type 0
ReadsAll (Ok v) left = IsAtEnd left
ReadsAll (Err fault.Write) left = IsAtEnd left
ReadsAll (Err fault.Read) left = Unit {0}
ReadsAll (Err fault.Memory) left = Unit {0}

-- What a check by these rules read and wrote: the reader had `left_before` left and has `left_after`, the writer held `held_before` and holds `held_after`.
pub record IsChecked (g : Rules) (all : Bool) (result : Result Verdict TraceFault) (left_before left_after held_before held_after : Option (List ℕ)) : Type 0 where
  pub bytes : List ℕ
  pub text : List ℕ
  pub consumed : Consumes left_before left_after bytes
  pub appended : Appends held_before held_after text
  pub written : Writes g all result bytes text
  pub whole : ReadsAll result left_after
