-- Glue. A run of calls, and the moments that it may stand at.
use Rattle.std.specs.Prelude.{◌≡◌, ℕ, ◌+◌, ◌*◌, Bool, true, false, List, drop, map, Option, Some, None, IsSome, Contains, ◌<◌, ◌≤◌, nat_eq}
use Rattle.std.specs.List.{list_any}
use Rattle.std.specs.declared.vec.Vec.{Vec}
use Rattle.std.specs.declared.alloc.Global.{Global}
use Rattle.uring_walk.specs.Paths.{AreOnce}
use Rattle.uring_entry.specs.Setup.{Setup}
use Rattle.uring_entry.specs.Layout.{Sqe}
use Rattle.uring_entry.specs.Preparation.{operation_of}
use Rattle.uring_entry.specs.Requests.{entry_of, is_issuable, is_running}
use Rattle.uring_entry.specs.declared.operation.Outcome.{Outcome}
use Rattle.uring_files.specs.Operations.{result_of}
use Rattle.uring_dispatch.specs.Dispatch.{ShowsRequests}
use Rattle.uring_outcomes.specs.Moments.{Moment, starting, is_finishable, moved, after_moves}
use Rattle.uring_outcomes.specs.Prompt.{is_named}
use Rattle.uring_outcomes.specs.Direct.{IsDirect}
use Rattle.uring_outcomes.specs.declared.move_of_calls.Move.{Move}
use Rattle.uring_outcomes.specs.declared.move_of_calls.Move.TheVariants as move
use Rattle.uring_outcomes.specs.declared.run.Run.{Run}

-- the entries of calls that vectors hold
abbrev pub entries_of : List (Vec Sqe Global) → List (List Sqe)
entries_of calls = map (λ call. call.items) calls

-- moves lead to this moment from some start
pub record IsReached (calls : List (List Sqe)) (m : Moment) : Type 0 where
  pub setup : Setup
  pub few_files : setup.files ≤ 64
  pub moves : List Move
  pub leads : after_moves (starting setup calls) moves ≡ Some m

-- The run stands at this moment.
pub record StandsAt (calls : List (List Sqe)) (run : Run) (m : Moment) : Type 0 where
  pub reached : IsReached calls m
  pub requests : ShowsRequests run.dispatch m.requests
  pub between : run.dispatch.is_between_calls ≡ true
  pub posted : run.posted.items ≡ m.posted
  pub files : run.files ≡ m.files
  pub left : m.left ≡ drop run.next_call calls

-- the run stands at some moment
pub record Stands (calls : List (List Sqe)) (run : Run) : Type 0 where
  pub moment : Moment
  pub at : StandsAt calls run moment

-- the outcome that the operation of a request calls for on the files that there are
abbrev pub called_in : Moment → ℕ → Outcome
called_in m n = result_of m.files (operation_of (entry_of m.requests n))

-- whether moves were made, by what they lead to: if to nothing, they weren't, and else this is so of it
abbrev pub MadeAs : Bool → Option Moment → (Moment → Type 0) → Type 0
MadeAs made None P = made ≡ false
MadeAs made (Some next) P = (made ≡ true) × P next

-- these moves lead from a moment to one at which the run stands
pub record LedTo (calls : List (List Sqe)) (from : Moment) (moves : List Move) (run : Run) : Type 0 where
  pub last : Moment
  pub leads : after_moves from moves ≡ Some last
  pub at : StandsAt calls run last

-- whether a user data is among these
abbrev pub among : List ℕ → ℕ → Bool
among names u = list_any (λ name. nat_eq name u) names

-- each of these moves can be made
abbrev pub CanAll : Moment → List Move → Type 0
CanAll m xs = (x : Move) → Contains xs x → IsSome (moved m x)

-- the order in which moves are tried
abbrev pub rank : Move → ℕ
rank move.Accept = 0
rank (move.Issue n) = n * 2 + 1
rank (move.Finish n) = n * 2 + 2

-- these moves are each there once, and come before this rank
pub record AreRanked (below : ℕ) (xs : List Move) : Type 0 where
  pub low : (x : Move) → Contains xs x → rank x < below
  pub once : AreOnce xs

-- the direct moves that can be made next are among these, each of which can be made, and none is there twice, if cancels name these user data
pub record HasNext (names : List ℕ) (m : Moment) (xs : List Move) : Type 0 where
  pub all : (x : Move) (next : Moment) → moved m x ≡ Some next → IsDirect (among names) m x
      → Contains xs x
  pub right : CanAll m xs
  pub once : AreOnce xs

-- a request that runs, and has none of these user data
pub record IsQuiet (names : List ℕ) (m : Moment) (n : ℕ) : Type 0 where
  pub runs : is_running m.requests n ≡ true
  pub unnamed : is_named (among names) m.requests n ≡ false

-- each issue and each finish of a request below this number that can be made is among these
pub record HasBelow (m : Moment) (below : ℕ) (xs : List Move) : Type 0 where
  pub issues : (n : ℕ) → n < below → is_issuable m.requests n ≡ true → Contains xs (move.Issue n)
  pub finishes : (n : ℕ) → n < below → is_finishable m.requests n ≡ true
      → Contains xs (move.Finish n)
