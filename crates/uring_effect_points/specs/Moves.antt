-- Glue. Timelines as a search walks over them: past the marks of a history, in order, with effects right before ends.
use Rattle.std.specs.Prelude.{◌≡◌, ℕ, Bool, true, false, not, is_some, ◌==◌, List, [], ◌∷◌, ◌++◌, map, filter, find, Option, Some, None, if◌then◌else◌}
use Rattle.uring_entry.specs.declared.operation.Op.{Op}
use Rattle.uring_entry.specs.declared.operation.Op.TheVariants.{Nop}
use Rattle.uring_entry.specs.declared.operation.Outcome.{Outcome}
use Rattle.uring_files.specs.Contents.{FileContents, empty_files, file_of_bytes}
use Rattle.uring_files.specs.Operations.{IsForFiles, IsOutcome, after}
use Rattle.uring_effect_points.specs.declared.mark.End.{End}
use Rattle.uring_effect_points.specs.declared.mark.Mark.{Mark}
use Rattle.uring_effect_points.specs.declared.mark.Mark.TheVariants.{Starts, Ends, Idle}
use Rattle.uring_effect_points.specs.declared.running.Running.{Running}

-- a file without what it counts, which no outcome tells
abbrev pub plain : FileContents → FileContents
plain f = file_of_bytes f.bytes

-- the operation of a request among those that run
abbrev pub look : List Running → ℕ → Option Running
look running n = find (λ one. one.number == n) running

abbrev pub taken_of : Option Running → Option Outcome
taken_of None = None
taken_of (Some one) = one.taken

abbrev pub op_of : Option Running → Op
op_of None = Nop
op_of (Some one) = one.op

-- the outcome with which that of a request took effect, if it runs and did
abbrev pub taken_by : List Running → ℕ → Option Outcome
taken_by running n = taken_of (look running n)

-- all but that of a request
abbrev pub without : List Running → ℕ → List Running
without running n = filter (λ one. not (one.number == n)) running

-- one, which has taken effect if it is that of the request
abbrev pub taking : ℕ → Outcome → Running → Running
taking n o one = if n == one.number then record one { taken = Some o } else one

-- all, with that of a request having taken effect
abbrev pub with_taken : List Running → ℕ → Outcome → List Running
with_taken running n o = map (λ one. taking n o one) running

-- How files and operations stand before a mark.
pub record MarkStanding : Type 0 where
  pub files : List FileContents
  pub running : List Running

abbrev pub at_first : ℕ → MarkStanding
at_first count = record { files = empty_files count; running = [] }

-- after a mark
abbrev pub passed : MarkStanding → Mark → MarkStanding
passed s (Starts n op) =
    record s { running = s.running ++ record { number = n; op = op; taken = None } ∷ [] }
passed s (Ends n e) = record s { running = without s.running n }
passed s Idle = s

-- after an effect
abbrev pub took : MarkStanding → ℕ → Outcome → MarkStanding
took s n o =
    record {
      files = map plain (after s.files (op_of (look s.running n)) o.res);
      running = with_taken s.running n o;
    }

-- bytes that are known are these
abbrev pub MeetsBytes : Option (List ℕ) → List ℕ → Type 0
MeetsBytes None bytes = Unit {0}
MeetsBytes (Some known) bytes = known ≡ bytes

-- an operation with this outcome may end so
abbrev pub Meets : End → Outcome → Type 0
Meets e o = (e.res ≡ o.res) × MeetsBytes e.bytes o.bytes

-- an operation that took effect so may end like this
abbrev pub EndsBy : Option Outcome → End → Type 0
EndsBy None e = ⊥
EndsBy (Some o) e = Meets e o

-- an operation ends with the outcome with which it took effect
abbrev pub Passes : List Running → Mark → Type 0
Passes running (Ends n e) = EndsBy (taken_by running n) e
Passes running mark = Unit {0}

-- how the operation of a request ends, if it does
abbrev pub end_in : List Mark → ℕ → Option End
end_in [] n = None
end_in (Ends m e ∷ marks) n = if m == n then Some e else end_in marks n
end_in (mark ∷ marks) n = end_in marks n

-- an operation that is to end so, if it ends, may take effect with this outcome
abbrev pub FitsEnd : Option End → Outcome → Type 0
FitsEnd None o = Unit {0}
FitsEnd (Some e) o = Meets e o

-- whether the next mark is the end of an operation that has taken no effect
abbrev pub awaits : List Running → List Mark → Bool
awaits running (Ends n e ∷ marks) = not (is_some (taken_by running n))
awaits running marks = false

-- An operation may take effect here: it runs and has taken none, the end of one that has taken none is next, the files call for the outcome, and it may end so.
pub record MayTake (s : MarkStanding) (marks : List Mark) (n : ℕ) (o : Outcome) : Type 0 where
  pub op : Op
  pub runs : look s.running n ≡ Some (record { number = n; op = op; taken = None })
  pub asks : IsForFiles op
  pub gives : IsOutcome s.files op o
  pub ends : FitsEnd (end_in marks n) o
  pub waits : awaits s.running marks ≡ true

pub data Move : Type 0 where
  Pass : Move
  Take : (n : ℕ) → (outcome : Outcome) → Move

-- these moves, in order, lead past all marks
abbrev pub IsWalk : MarkStanding → List Mark → List Move → Type 0
IsWalk s marks [] = marks ≡ []
IsWalk s [] (Pass ∷ later) = ⊥
IsWalk s (mark ∷ marks) (Pass ∷ later) =
    Passes s.running mark × IsWalk (passed s mark) marks later
IsWalk s marks (Take n o ∷ later) = MayTake s marks n o × IsWalk (took s n o) marks later

-- some moves do
pub record Goes (s : MarkStanding) (marks : List Mark) : Type 0 where
  pub moves : List Move
  pub walk : IsWalk s marks moves
