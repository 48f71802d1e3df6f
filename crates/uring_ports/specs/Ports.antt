-- What goes through the two ports of a pair: submissions from the application to the dispatcher, completions back.
use Rattle.std.specs.Prelude.{◌≡◌, ℕ, ◌+◌, ◌<◌, ◌≤◌, Bool, true, false, List, [], ◌∷◌, ◌++◌, length, if◌then◌else◌}
use Rattle.std.specs.List.{flat_map}
use Rattle.uring_entry.specs.Layout.{Cqe}
use Rattle.uring_entry.specs.Setup.{Setup}
use Rattle.uring_ports.specs.declared.item.Item.{Item}
use Rattle.uring_ports.specs.declared.pulled.Pulled.{Pulled}
use Rattle.uring_ports.specs.declared.pulled.Pulled.TheVariants as pulled

-- how many items, and how many completions, may be on their way at once: the sizes of the two rings
pub record Sizes : Type 0 where
  pub sq : ℕ
  pub cq : ℕ

-- those of a set-up
abbrev pub sizes_of : Setup → Sizes
sizes_of s = record { sq = s.sq; cq = s.cq }

-- all that went one way: the items call by call, and whether the close mark went after them
pub record Put : Type 0 where
  pub calls : List (List Item)
  pub closed : Bool

-- nothing yet
abbrev pub nothing_put : Put
nothing_put = record { calls = []; closed = false }

-- a call more
abbrev pub with_call : Put → List Item → Put
with_call p items = record { calls = p.calls ++ items ∷ []; closed = p.closed }

-- the close mark after all calls
abbrev pub with_close : Put → Put
with_close p = record { calls = p.calls; closed = true }

-- the items of these calls, in order
abbrev pub items_of_calls : List (List Item) → List Item
items_of_calls calls = flat_map (λ call. call) calls

-- how many places all this took: one an item, one the close mark
abbrev pub places_of : Put → ℕ
places_of p = length (items_of_calls p.calls) + (if p.closed then 1 else 0)

-- what a pull of a ring of this size took: one whole call, the close mark after all calls, or nothing
abbrev pub Pulls : ℕ → Put → Pulled → List Item → Put → Type 0
Pulls size old pulled.Call items new =
    (0 < length items) × (length items ≤ size) × (old.closed ≡ false) × (new ≡ with_call old items)
Pulls size old pulled.Close items new = (items ≡ []) × (old.closed ≡ false) × (new ≡ with_close old)
Pulls size old pulled.Nothing items new = (items ≡ []) × (new ≡ old)

-- what was pulled begins what was put, and these items are the rest, whole calls
pub record LeavesItems (put pulled : Put) (unsent : List Item) : Type 0 where
  pub rest : List (List Item)
  pub calls : pulled.calls ++ rest ≡ put.calls
  pub items : unsent ≡ items_of_calls rest
  pub closed : pulled.closed ≡ true → (put.closed ≡ true) × (rest ≡ [])

-- what was got begins what was delivered, and these completions are the rest
abbrev pub LeavesCompletions : List Cqe → List Cqe → List Cqe → Type 0
LeavesCompletions delivered got undelivered = delivered ≡ got ++ undelivered
