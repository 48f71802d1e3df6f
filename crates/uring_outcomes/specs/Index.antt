-- Glue. Where in a list the endings of a mark are.
use Rattle.std.specs.Prelude.{◌≡◌, ℕ, ◌+◌, ◌*◌, ◌%◌, ◌^◌, List, [], ◌∷◌, Some, IsSomeAnd, Contains, slice_get, nat_eq}
use Rattle.std.specs.Int.{w32, cast_unsigned}
use Rattle.std.specs.HashMap.{HashMap, get}
use Rattle.std.specs.declared.vec.Vec.{Vec}
use Rattle.std.specs.declared.alloc.Global.{Global}
use Rattle.uring_entry.specs.Layout.{Cqe}
use Rattle.uring_outcomes.specs.Outcomes.{Ending}
use Rattle.uring_outcomes.specs.declared.endings.Endings.{Endings}

-- The mark of completions: a number by which most lists of them differ.

-- with one completion more
abbrev pub mixed : ℕ → Cqe → ℕ
mixed mark c =
    ((mark * 31 % 2 ^ 64 + c.user_data) % 2 ^ 64 * 31 % 2 ^ 64 + cast_unsigned w32 c.res) % 2 ^ 64

abbrev pub mark_from : ℕ → List Cqe → ℕ
mark_from mark [] = mark
mark_from mark (c ∷ more) = mark_from (mixed mark c) more

abbrev pub mark_of : List Cqe → ℕ
mark_of posted = mark_from 0 posted

-- this place is noted for this mark
abbrev pub HasPlace : {S : Type 0} → HashMap ℕ (Vec ℕ Global) S → ℕ → ℕ → Type 0
HasPlace places mark k = IsSomeAnd (get nat_eq places mark) (λ known. Contains known.items k)

-- the place of each ending is noted for its mark
abbrev pub IsIndexed : Endings → Type 0
IsIndexed found = (k : ℕ) (e : Ending) → slice_get found.list.items k ≡ Some e
    → HasPlace found.places (mark_of e.posted) k

-- one place more is noted for a mark
pub record NotesPlace {S : Type 0} (old new : HashMap ℕ (Vec ℕ Global) S) (mark place : ℕ) : Type 0 where
  pub kept : (m k : ℕ) → HasPlace old m k → HasPlace new m k
  pub noted : HasPlace new mark place
