-- What the seats of a ring's table know, and the rule that binds them. Our own rule.
use Rattle.std.specs.Prelude.{◌≡◌, ℕ, ◌≤◌, true, false, List, []}
use Rattle.std.specs.Int.{IsPowerOfTwo}
use mathlib.Core.Option.{some}
use lib.ListN.{get_elem?}
use Rattle.atomic_table.specs.Seated.{TableId}
use Rattle.atomic_table.specs.Table.{State, Me}
use Rattle.uring_words.specs.declared.sides.View.{View}

-- A is what the application knows, D what the dispatcher knows.
module _ {A D : Type 0} where
  -- A seat that has a side's flag is the one seat of that side, and knows what that side knows.
  pub record Knows (app_seat kernel_seat : ℕ) (a : A) (d : D) (seat : ℕ) (v : View A D) : Type 0 where
    pub app : v.is_app ≡ true → (seat ≡ app_seat) × (v.app ≡ a)
    pub kernel : v.is_kernel ≡ true → (seat ≡ kernel_seat) × (v.kernel ≡ d)

  -- There is one application and one dispatcher, who agree on the words.
  pub record AgreeBy (Agree : List ℕ → A → D → Type 0) (s : State (Unit {0}) (View A D)) : Type 0 where
    pub app_seat : ℕ
    pub kernel_seat : ℕ
    pub app : A
    pub kernel : D
    pub agree : Agree s.words app kernel
    pub seats : (seat : ℕ) (v : View A D) → get_elem? s.views seat ≡ some v
        → Knows app_seat kernel_seat app kernel seat v

  -- what a seat of both sides knows
  abbrev pub both_know : A → D → View A D
  both_know a d = record { is_app = true; is_kernel = true; app = a; kernel = d }

  -- the application's seat of a seat of both sides
  abbrev pub app_part : View A D → View A D
  app_part v = record v { is_kernel = false }

  -- the dispatcher's seat of a seat of both sides
  abbrev pub kernel_part : View A D → View A D
  kernel_part v = record v { is_app = false }

  -- a dispatcher's seat that takes in an application's
  abbrev pub both_parts : View A D → View A D → View A D
  both_parts v w = both_know w.app v.kernel

  -- what is left of the seat that is taken in
  abbrev pub spent_with : A → D → View A D
  spent_with a d = record { is_app = false; is_kernel = false; app = a; kernel = d }

  -- only what the application knows changed, to a
  abbrev pub with_app : Me (Unit {0}) (View A D) → A → Me (Unit {0}) (View A D)
  with_app m a = (record m.0 { app = a }, m.1)

  -- only what the dispatcher knows changed, to d
  abbrev pub with_kernel : Me (Unit {0}) (View A D) → D → Me (Unit {0}) (View A D)
  with_kernel m d = (record m.0 { kernel = d }, m.1)

-- what a seat carries, which is nothing, since the tables have no slots
abbrev pub Hands : Type 0
Hands = List (ℕ × Unit {0})

-- A seat of this table, which carries nothing, in a ring of this size, a power of two, at most the limit.
pub record Fits (seat table : TableId) (carried : Hands) (words limit size known_size : ℕ) : Type 0 where
  pub same_table : seat ≡ table
  pub many : table.words ≡ words
  pub carries_none : carried ≡ []
  pub power : IsPowerOfTwo size
  pub most : size ≤ limit
  pub sized : known_size ≡ size
