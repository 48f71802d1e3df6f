-- Glue. A search for moves that lead past all marks: where it is still to go on.
use Rattle.std.specs.Prelude.{◌≡◌, ◌≤◌, ◌+◌, ℕ, Bool, List, ◌++◌, length, map, drop, slice_index_or, Contains, ◌⊎◌}
use Rattle.uring_effect_points.specs.declared.mark.Mark.{Mark}
use Rattle.uring_effect_points.specs.declared.mark.Mark.TheVariants.{Idle}
use Rattle.uring_effect_points.specs.declared.search.Fate.{Fate}
use Rattle.uring_effect_points.specs.declared.search.Fate.TheVariants.{Explained, Over, Open}
use Rattle.uring_effect_points.specs.declared.state.State.{State}
use Rattle.uring_effect_points.specs.declared.takers.Taker.{Taker}
use Rattle.uring_effect_points.specs.Moves.{MarkStanding, Goes, MayTake, Passes, at_first, awaits, passed, took, plain}

-- How files and operations stand before the mark of this place.
pub record Seat : Type 0 where
  pub standing : MarkStanding
  pub place : ℕ

abbrev pub seat_of : State → Seat
seat_of s =
    record {
      standing = record { files = map plain s.files; running = s.running.items };
      place = s.place;
    }

abbrev pub seats_of : List State → List Seat
seats_of todo = map seat_of todo

-- the marks that are left
abbrev pub left_at : List Mark → Seat → List Mark
left_at marks s = drop s.place marks

-- some moves lead from here past all marks
abbrev pub GoesOn : List Mark → Seat → Type 0
GoesOn marks s = Goes s.standing (left_at marks s)

-- after the next mark
abbrev pub passed_at : List Mark → Seat → Seat
passed_at marks s =
    record { standing = passed s.standing (slice_index_or marks s.place Idle); place = s.place + 1 }

-- after this effect
abbrev pub took_at : Seat → Taker → Seat
took_at s x = record { standing = took s.standing x.number x.outcome; place = s.place }

-- the operation may go past the next mark
abbrev pub PassesAt : List Mark → Seat → Type 0
PassesAt marks s = Passes s.standing.running (slice_index_or marks s.place Idle)

-- whether the next mark is the end of an operation that has taken no effect
abbrev pub awaits_at : List Mark → Seat → Bool
awaits_at marks s = awaits s.standing.running (left_at marks s)

-- one of these goes on
pub record OneGoes (marks : List Mark) (todo : List Seat) : Type 0 where
  pub seat : Seat
  pub there : Contains todo seat
  pub goes : GoesOn marks seat

-- it has so many files, and stands before one of the marks or after all
pub record IsPlaced (count : ℕ) (marks : List Mark) (s : Seat) : Type 0 where
  pub count_is : length s.standing.files ≡ count
  pub within : s.place ≤ length marks

-- in place of one these are to be gone on from
pub record Replaces (count : ℕ) (marks : List Mark) (s : Seat) (old new : List Seat) : Type 0 where
  pub next : List Seat
  pub is : new ≡ old ++ next
  pub all : GoesOn marks s → OneGoes marks next
  pub right : (x : Seat) → Contains next x → IsPlaced count marks x × (GoesOn marks x → GoesOn marks s)

-- how the search stands: moves lead past all marks exactly if some do from where it is still to go on
pub record IsSearch (count : ℕ) (marks : List Mark) (todo : List Seat) : Type 0 where
  pub all : Goes (at_first count) marks → OneGoes marks todo
  pub right : (x : Seat) → Contains todo x → IsPlaced count marks x × (GoesOn marks x → Goes (at_first count) marks)

-- an operation may take effect here with this outcome
abbrev pub MayTakeAt : List Mark → Seat → Taker → Type 0
MayTakeAt marks s x = MayTake s.standing (left_at marks s) x.number x.outcome

-- these are the operations that may take effect here, with their outcomes
pub record AreTakers (s : MarkStanding) (marks : List Mark) (takers : List Taker) : Type 0 where
  pub right : (x : Taker) → Contains takers x → MayTake s marks x.number x.outcome
  pub all : (x : Taker) → MayTake s marks x.number x.outcome → Contains takers x

-- those that have a property were added, and no others
pub record Adds (P : Taker → Type 0) (old new : List Taker) : Type 0 where
  pub kept : (x : Taker) → Contains old x → Contains new x
  pub right : (x : Taker) → Contains new x → Contains old x ⊎ P x
  pub all : (x : Taker) → P x → Contains new x

-- what a search comes to: some moves lead past all marks, none do, or some are left to be tried
abbrev pub IsFated : ℕ → List Mark → Fate → Type 0
IsFated count marks Explained = Goes (at_first count) marks
IsFated count marks Over = Goes (at_first count) marks → ⊥
IsFated count marks Open = Unit {0}

abbrev pub HasFate : ℕ → List Mark → List Seat → Fate → Type 0
HasFate count marks todo Explained = Goes (at_first count) marks
HasFate count marks todo Over = Goes (at_first count) marks → ⊥
HasFate count marks todo Open = IsSearch count marks todo
