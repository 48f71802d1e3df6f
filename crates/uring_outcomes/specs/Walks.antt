-- Glue. A walk over all lists of moves: what comes next after a path, and what was found.
use Rattle.std.specs.Prelude.{◌≡◌, ◌⊎◌, ℕ, List, [], ◌∷◌, ◌++◌, map, Option, Some, IsSome, Contains}
use Rattle.std.specs.declared.vec.Vec.{Vec}
use Rattle.std.specs.declared.alloc.Global.{Global}
use Rattle.uring_entry.specs.Setup.{Setup}
use Rattle.uring_entry.specs.Layout.{Sqe}
use Rattle.uring_outcomes.specs.Moments.{Moment, starting, moved, after_moves}
use Rattle.uring_outcomes.specs.CallOutcomes.{IsOver}
use Rattle.uring_outcomes.specs.Direct.{IsDirect}
use Rattle.uring_outcomes.specs.declared.move_of_calls.Move.{Move}
use Rattle.uring_outcomes.specs.Outcomes.{Ending, AreEndings, AreOnce, ending_of}
use Rattle.uring_outcomes.specs.Runs.{among, LedTo}
use Rattle.uring_outcomes.specs.Index.{IsIndexed}
use Rattle.uring_outcomes.specs.declared.endings.Endings.{Endings}
use Rattle.uring_outcomes.specs.declared.stage.Stage.{Stage}

-- the lists of moves that vectors hold
abbrev pub paths_of : List (Vec Move Global) → List (List Move)
paths_of todo = map (λ path. path.items) todo

-- the list begins with one of these paths
pub record BeginsIn (todo : List (List Move)) (moves : List Move) : Type 0 where
  pub path : List Move
  pub rest : List Move
  pub there : Contains todo path
  pub is : moves ≡ path ++ rest

-- after this path the move can be made
pub record CanCome (g : Setup) (calls : List (List Sqe)) (path : List Move) (x : Move) : Type 0 where
  pub here : Moment
  pub leads : after_moves (starting g calls) path ≡ Some here
  pub can : IsSome (moved here x)

-- after this path the move is direct, where cancels name these user data, and can be made
pub record IsDue (g : Setup) (calls : List (List Sqe)) (names : List ℕ) (path : List Move) (x : Move) : Type 0 where
  pub here : Moment
  pub next : Moment
  pub leads : after_moves (starting g calls) path ≡ Some here
  pub made : moved here x ≡ Some next
  pub direct : IsDirect (among names) here x

-- the run has made the moves of this path
pub record IsStage (g : Setup) (calls : List (List Sqe)) (stage : Stage) (path : List Move) : Type 0 where
  pub is : stage.path.items ≡ path
  pub led : LedTo calls (starting g calls) path stage.run

-- a path that is kept, and can be made
pub record IsSpot (g : Setup) (calls : List (List Sqe)) (kept path : List Move) : Type 0 where
  pub is : kept ≡ path
  pub can : IsSome (after_moves (starting g calls) path)

-- One more ending may have been noted, that of this moment if it is over.
pub record HasNoted (m : Moment) (old new : List Ending) : Type 0 where
  pub kept : (e : Ending) → Contains old e → Contains new e
  pub right : (e : Ending) → Contains new e → Contains old e ⊎ (IsOver m × (e ≡ ending_of m))
  pub noted : IsOver m → Contains new (ending_of m)
  pub once : AreOnce old → AreOnce new

-- an ending was added, unless it was there
abbrev pub AddsOnce : Ending → List Ending → List Ending → Type 0
AddsOnce e old new = ((new ≡ old) × Contains old e) ⊎ ((new ≡ old ++ e ∷ []) × (Contains old e → ⊥))

-- what was found once these paths were visited: the ending of each that leads to an end, each once, and nothing that isn't one
pub record HasFound (g : Setup) (calls : List (List Sqe)) (found : Endings) (seen : List (List Move)) : Type 0 where
  pub all : (path : List Move) (last : Moment) → Contains seen path
      → after_moves (starting g calls) path ≡ Some last → IsOver last
      → Contains found.list.items (ending_of last)
  pub right : AreEndings g calls found.list.items
  pub once : AreOnce found.list.items
  pub indexed : IsIndexed found
