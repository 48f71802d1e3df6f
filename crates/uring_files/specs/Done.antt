-- Operations that were carried out on files, one after the other, and the files that they leave.
use Rattle.std.specs.Prelude.{ℕ, List, [], ◌∷◌}
use Rattle.uring_entry.specs.declared.operation.Op.{Op}
use Rattle.uring_entry.specs.declared.operation.Outcome.{Outcome}
use Rattle.uring_files.specs.Contents.{FileContents}
use Rattle.uring_files.specs.Operations.{after, IsOutcome}

-- An operation that was carried out: of which request, and how it ended.
pub record Done : Type 0 where
  pub number : ℕ
  pub op : Op
  pub outcome : Outcome

-- the files after these operations, carried out on these files
abbrev pub files_left : List FileContents → List Done → List FileContents
files_left files [] = files
files_left files (d ∷ later) = files_left (after files d.op d.outcome.res) later

-- each of these operations ended as the files call for that those before it left of these
abbrev pub AreDone : List FileContents → List Done → Type 0
AreDone files [] = Unit {0}
AreDone files (d ∷ later) =
    IsOutcome files d.op d.outcome × AreDone (after files d.op d.outcome.res) later
