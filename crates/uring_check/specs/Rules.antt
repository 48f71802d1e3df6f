-- By what a recorded trace is judged.
use Rattle.std.specs.Prelude.{◌≡◌, ℕ, Bool, true, false, List, [], ◌∷◌, Option, Some, None}
use Rattle.uring_entry.specs.Layout.{Sqe}
use Rattle.uring_entry.specs.Requests.{Requests, entry_outstanding, no_bytes}
use Rattle.uring_entry.specs.Results.{may_end}
use Rattle.uring_entry.specs.Setup.{Setup}
use Rattle.uring_core.specs.CalledFor.{CalledFor, IsLawful}
use Rattle.uring_core.specs.Histories.{History, world, IsLawfulApart}
use Rattle.uring_core.specs.StepAnswers.{CalledForApart}
use Rattle.uring_core.specs.World.{World}
use Rattle.uring_core.specs.declared.answer.Answer.{Answer}
use Rattle.uring_core.specs.declared.answer.Answer.TheVariants as answer
use Rattle.uring_core.specs.declared.step.Step.{Step}
use Rattle.uring_core.specs.declared.step.Step.TheVariants as step
use Rattle.uring_text.specs.Spelling.{IsFile}
use Rattle.uring_check.specs.SetupLines.{IsSaid}
use Rattle.uring_check.specs.declared.ends.Ends.{Ends}
use Rattle.uring_check.specs.declared.ends.Ends.TheVariants.{Given, Any, Allowed}
use Rattle.uring_check.specs.declared.setup_line.Said.{Said}
use Rattle.uring_check.specs.declared.setup_line.Said.TheVariants.{Nothing, Says, Misses}

-- A set-up, and what is asked of the ends of running requests.
pub record Rules : Type 0 where
  pub setup : Setup
  pub ends : Ends

-- whether a trace is judged apart from files, as that of a ring without them
abbrev pub is_apart : Ends → Bool
is_apart Given = false
is_apart Any = true
is_apart Allowed = true

abbrev pub CalledIn : Bool → Setup → World → Step → Answer → Type 0
CalledIn false g w s a = CalledFor g w s a
CalledIn true g w s a = CalledForApart g w s a

-- with files or apart from them the answer is called for after a history
abbrev pub CalledBy : Rules → History → Step → Answer → Type 0
CalledBy r h s a = CalledIn (is_apart r.ends) r.setup (world r.setup h) s a

-- of a finish the entry of its request, if that is outstanding, where a result is to be one that its operation may give
abbrev pub entry_in : Ends → Requests → Step → Option Sqe
entry_in Allowed r (step.Finish n) = entry_outstanding r n
entry_in ends r s = None

abbrev pub entry_asked : Rules → History → Step → Option Sqe
entry_asked r h s = entry_in r.ends (world r.setup h).requests s

-- an end has a result that a running request of this entry may end with, if there is one. read(2), write(2), fsync(2)
abbrev pub MayGive : Answer → Option Sqe → Type 0
MayGive (answer.Ended res bytes) (Some e) = may_end e res ≡ true
MayGive a asked = Unit {0}

-- the result is allowed after a history
abbrev pub AllowedBy : Rules → History → Step → Answer → Type 0
AllowedBy r h s a = MayGive a (entry_asked r h s)

-- the answer is called for after a history, and its result is allowed
abbrev pub IsCalled : Rules → History → Step → Answer → Type 0
IsCalled r h s a = CalledBy r h s a × AllowedBy r h s a

abbrev pub LawfulIn : Bool → Setup → History → Type 0
LawfulIn false g h = IsLawful g h
LawfulIn true g h = IsLawfulApart g h

-- each result of a history is allowed
abbrev pub AreAllowed : Rules → History → Type 0
AreAllowed r [] = Unit {0}
AreAllowed r (e ∷ before) = AllowedBy r before e.0 e.1 × AreAllowed r before

-- each answer of a history is called for by what came before it, and each result is allowed
abbrev pub IsLawfulBy : Rules → History → Type 0
IsLawfulBy r h = LawfulIn (is_apart r.ends) r.setup h × AreAllowed r h

-- An end without files is told by its result alone: that has 32 bits and a sign, and no bytes are given. Of any other answer nothing is asked. Our own rule
abbrev pub IsPlain : Answer → Bool → Step → Type 0
IsPlain (answer.Ended res bytes) true (step.Finish n) = IsFile res × (bytes ≡ no_bytes)
IsPlain a apart s = Unit {0}

-- the first of lines that stand newest first, if there is one
abbrev pub first_of : List (List ℕ) → Option (List ℕ)
first_of [] = None
first_of (line ∷ []) = Some line
first_of (line ∷ next ∷ before) = first_of (next ∷ before)

-- the rules by what the first line says: those given, or these with its set-up; none if it misses one
abbrev pub rules_by : Rules → Said → Option Rules
rules_by given Nothing = Some given
rules_by given (Says s) = Some (record { setup = s; ends = given.ends })
rules_by given Misses = None

abbrev pub AreRuled : Rules → Option (List ℕ) → Option Rules → Type 0
AreRuled given None rules = rules ≡ Some given
AreRuled given (Some line) rules = (said : Said) × IsSaid line said
    × (rules ≡ rules_by given said)

-- By these rules the lines are judged, the newest first, if by any: those that are given, but with the set-up that the first line says.
abbrev pub AreJudgedBy : Rules → List (List ℕ) → Option Rules → Type 0
AreJudgedBy given lines rules = AreRuled given (first_of lines) rules
