-- How the drains of a ring stand, as Linux 6.18 was seen to keep them. What the kernel does is told in docs/PROTOCOL.md, Drains; the words are our own.
use Rattle.std.specs.Prelude.{ℕ, Bool, true, false, not, ◌&&◌, ◌||◌, nat_lt, nat_le, List, [], ◌∷◌, ◌++◌, if◌then◌else◌}
use Rattle.std.specs.List.{list_any}
use Rattle.uring_linux.specs.declared.deferred.Deferred.{Deferred}

-- How the drains of a ring stand.
pub record Drains : Type 0 where
  -- whether the ring drains
  pub ring : Bool
  -- whether a drain is owed to the next group
  pub owed : Bool
  -- the number after the last group that was accepted: from there on the entries of the next are taken
  pub from : ℕ
  -- whether that next group drains, as far as its entries were taken
  pub group : Bool
  -- the groups that are deferred, in the order of acceptance
  pub deferred : List Deferred

-- no entry was taken
abbrev pub no_drains : Drains
no_drains = record { ring = false; owed = false; from = 0; group = false; deferred = [] }

-- whether n is a member of this group
abbrev pub is_among : ℕ → Deferred → Bool
is_among n g = nat_le g.from n && nat_lt n g.end

-- whether n is a member of one of these groups
abbrev pub is_in_some : List Deferred → ℕ → Bool
is_in_some groups n = list_any (is_among n) groups

-- whether the next group takes the drain that is owed, with this entry: the entry is its first, and let in
abbrev pub takes_owed : Drains → (is_first is_let_in : Bool) → Bool
takes_owed d is_first is_let_in = d.owed && (is_first && is_let_in)

-- Whether a drain is owed after an entry: what was owed and isn't taken still is, and a drain that isn't the first of its group owes one.
abbrev pub owed_after : Drains → (is_first is_let_in is_drain : Bool) → Bool
owed_after d is_first is_let_in is_drain =
    if is_first then d.owed && not is_let_in else d.owed || is_drain

-- An entry is taken. From a drain on the ring and the group drain, and from one that is owed.
abbrev pub with_entry : Drains → (is_first is_let_in is_drain : Bool) → Drains
with_entry d is_first is_let_in is_drain = record d {
  ring = d.ring || (is_drain || takes_owed d is_first is_let_in);
  owed = owed_after d is_first is_let_in is_drain;
  group = d.group || (is_drain || takes_owed d is_first is_let_in);
}

-- the groups after the first ones that don't drain
abbrev pub from_drain : List Deferred → List Deferred
from_drain [] = []
from_drain (g ∷ rest) = if g.drains then g ∷ rest else from_drain rest

-- What of these groups stays deferred. If all that is outstanding belongs to them, the first goes on, and with one that doesn't drain those after it up to the next that drains.
abbrev pub still_deferred : (is_alone : Bool) → List Deferred → List Deferred
still_deferred is_alone [] = []
still_deferred is_alone (g ∷ rest) =
    if not is_alone then g ∷ rest else if g.drains then rest else from_drain rest

abbrev pub is_none : List Deferred → Bool
is_none [] = true
is_none (g ∷ rest) = false

-- the groups that are deferred once the next group, which ends before this number, is one of them
abbrev pub deferred_with : Drains → (end : ℕ) → List Deferred
deferred_with d end = d.deferred ++ record { from = d.from; end = end; drains = d.group } ∷ []

-- the next group was accepted, and these are deferred now
abbrev pub with_deferred : Drains → (end : ℕ) → List Deferred → Drains
with_deferred d end groups = record d { from = end; group = false; deferred = groups }

-- A group without a fault was accepted by a ring that drains: it drains on if that group does, or something is deferred still.
abbrev pub with_ring : Drains → (drains : Bool) → Drains
with_ring d drains = record d { ring = d.ring && (drains || not (is_none d.deferred)) }
