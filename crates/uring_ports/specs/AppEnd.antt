-- The application's end, and when it refuses.
use Rattle.std.specs.Prelude.{◌≡◌, ℕ, ◌+◌, ◌<◌, ◌≤◌, true, false, List, [], ◌∷◌, ◌++◌, length, Option}
use Rattle.uring_entry.specs.Layout.{Cqe}
use Rattle.uring_ports.specs.declared.item.Item.{Item}
use Rattle.uring_ports.specs.declared.refusals.SubmitRefusal.{SubmitRefusal}
use Rattle.uring_ports.specs.declared.refusals.SubmitRefusal.TheVariants as submit
use Rattle.uring_ports.specs.declared.refusals.CloseRefusal.{CloseRefusal}
use Rattle.uring_ports.specs.declared.refusals.CloseRefusal.TheVariants as close
use Rattle.uring_ports.specs.Dropped.{with_word}
use Rattle.uring_ports.specs.Items.{AreItems}
use Rattle.uring_ports.specs.Ports.{Sizes, Put, with_call, with_close, places_of}
use Rattle.uring_ports.specs.Seen.{SeenRoom, SeenCompletions}

-- The application's end: the numbers of its pair of ports, the sizes of the rings, the items of each submit that returned Ok, call by call, with whether it is closed, every completion reaped, and every dropped word loaded, oldest first; without a list if no such word lies between the ends. And what its port has seen: room, and completions that aren't reaped.
pub record AppEnd : Type 0 where
  pub pairing : List ℕ
  pub sizes : Sizes
  pub submitted : Put
  pub received : List Cqe
  pub dropped : Option (List ℕ)
  pub saw_room : SeenRoom
  pub saw_completions : SeenCompletions

-- these items as a call more
abbrev pub submits : AppEnd → List Item → AppEnd
submits a items = record a { submitted = with_call a.submitted items }

-- the close mark after all calls
abbrev pub closes : AppEnd → AppEnd
closes a = record a { submitted = with_close a.submitted }

-- a completion more
abbrev pub reaps : AppEnd → Cqe → AppEnd
reaps a completion = record a { received = a.received ++ completion ∷ [] }

-- the end with this room seen
abbrev pub sees_room : AppEnd → SeenRoom → AppEnd
sees_room a seen = record a { saw_room = seen }

-- the end with these completions seen
abbrev pub sees_completions : AppEnd → SeenCompletions → AppEnd
sees_completions a seen = record a { saw_completions = seen }

-- a dropped word more
abbrev pub loads : AppEnd → ℕ → AppEnd
loads a word = record a { dropped = with_word a.dropped word }

-- these items can be a call: the end is open, and there is at least one item, at most the ring's size of them, and no bad word that is below the size
abbrev pub IsSound : AppEnd → List Item → Type 0
IsSound a items = (a.submitted.closed ≡ false) × (0 < length items) × (length items ≤ a.sizes.sq)
    × AreItems a.sizes.sq items

-- what is wrong with a call by itself, for a ring of this size: each refusal only if those above it don't stand
abbrev pub IsAmiss : ℕ → List Item → SubmitRefusal → Type 0
IsAmiss size items submit.Closed = ⊥
IsAmiss size items submit.Empty = items ≡ []
IsAmiss size items submit.TooLong = size < length items
IsAmiss size items submit.NotBad =
    (0 < length items) × (length items ≤ size) × (AreItems size items → ⊥)
IsAmiss size items submit.Full = ⊥

-- when a call is refused so: each refusal only if those above it don't stand
abbrev pub RefusesCall : AppEnd → List Item → SubmitRefusal → Type 0
RefusesCall a items submit.Closed = a.submitted.closed ≡ true
RefusesCall a items submit.Full =
    IsSound a items × (a.sizes.sq < places_of a.submitted + length items)
RefusesCall a items refusal = (a.submitted.closed ≡ false) × IsAmiss a.sizes.sq items refusal

-- when the close mark is refused so
abbrev pub RefusesClose : AppEnd → CloseRefusal → Type 0
RefusesClose a close.Closed = a.submitted.closed ≡ true
RefusesClose a close.Full = (a.submitted.closed ≡ false) × (a.sizes.sq < places_of a.submitted + 1)
