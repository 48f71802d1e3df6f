-- Glue. The groups that have an outstanding member, and the barriers among them.
use Rattle.std.specs.Prelude.{◌≡◌, ◌≢◌, ℕ, ◌+◌, ◌<◌, ◌≤◌, Bool, true, false, ◌&&◌, ◌==◌, nat_lt, List, [], ◌∷◌, ◌++◌, if◌then◌else◌, slice_index_or, Option, Some, None, is_some}
use Rattle.std.specs.List.{list_any, list_all}
use Rattle.uring_entry.specs.Below.{found_or}
use Rattle.uring_dispatch.specs.declared.group.Group.{Group}
use Rattle.uring_dispatch.specs.declared.group.Barrier.{Barrier}

-- What is kept of groups: each by its key; the draining ones in order; the one that more members may join; and how many more requests can be accepted.
pub record Groups : Type 0 where
  pub records : List (Option Group)
  pub barriers : List Barrier
  pub last : Option ℕ
  pub room : ℕ

-- the group of a key
abbrev pub group_at : Groups → ℕ → Option Group
group_at g key = slice_index_or g.records key None

-- the group that more members may join
abbrev pub last_group : List (Option Group) → Option ℕ → Option Group
last_group records None = None
last_group records (Some key) = slice_index_or records key None

-- the least member that asks to drain
abbrev pub drain_of : Option Group → Option ℕ
drain_of None = None
drain_of (Some q) = q.drain

-- a group with one more member
abbrev pub with_member : Option Group → ℕ → Bool → Bool → Group
with_member None n drains faulty = record {
  from = n;
  end = n + 1;
  least = n;
  fault = found_or None faulty n;
  drain = found_or None drains n;
  broken = None;
}
with_member (Some q) n drains faulty =
    record q { end = n + 1; fault = found_or q.fault faulty n; drain = found_or q.drain drains n }

-- whether it drains from just this member on
abbrev pub starts_at : Option ℕ → ℕ → Bool
starts_at None n = false
starts_at (Some number) n = number == n

-- the barriers, with one more if the group of this key drains from its member n on
abbrev pub with_barrier : List Barrier → Option ℕ → ℕ → ℕ → List Barrier
with_barrier barriers drain n key =
    if starts_at drain n then barriers ++ record { number = n; key = key } ∷ [] else barriers

-- the barrier of the group of this key that drains from this member on
abbrev pub covers : ℕ → ℕ → Barrier → Bool
covers key number b = (b.key == key) && (b.number == number)

-- the barriers stand in the order of their numbers, no two with one number
abbrev pub IsSorted : List Barrier → Type 0
IsSorted [] = Unit {0}
IsSorted (b ∷ rest) = (list_all (λ c. nat_lt b.number c.number) rest ≡ true) × IsSorted rest

-- the barriers' numbers are below n
abbrev pub IsBeyond : List Barrier → ℕ → Type 0
IsBeyond barriers n = list_all (λ b. nat_lt b.number n) barriers ≡ true

-- What is so whatever happened: each draining group has its barrier, in order, and the last group is kept.
pub record AreGroups (records : List (Option Group)) (barriers : List Barrier) (last : Option ℕ) : Type 0 where
  pub covered : (key number : ℕ) → drain_of (slice_index_or records key None) ≡ Some number
      → list_any (covers key number) barriers ≡ true
  pub sorted : IsSorted barriers
  pub opened : (key : ℕ) → last ≡ Some key → is_some (slice_index_or records key None) ≡ true

-- the first barrier's group has an outstanding member
abbrev pub IsLiveFront : List (Option Group) → List Barrier → Type 0
IsLiveFront records barriers = (b : Barrier) (rest : List Barrier) → barriers ≡ b ∷ rest
    → drain_of (slice_index_or records b.key None) ≡ Some b.number

-- At the key there is this now, and every other key keeps what it had.
pub record Exchanges (old new : Groups) (key : ℕ) (now : Option Group) : Type 0 where
  pub here : group_at new key ≡ now
  pub others : (k : ℕ) → k ≢ key → group_at new k ≡ group_at old k

-- a kept group drains from a member before n on
pub record HasBarrierBefore (g : Groups) (n : ℕ) : Type 0 where
  pub key : ℕ
  pub number : ℕ
  pub drains : drain_of (group_at g key) ≡ Some number
  pub before : number < n

-- the kept group that drains from the least number on, with its key and that number
pub record IsFirstDraining (g : Groups) (p : Group) : Type 0 where
  pub key : ℕ
  pub number : ℕ
  pub here : group_at g key ≡ Some p
  pub drains : p.drain ≡ Some number
  pub first : (k m : ℕ) → drain_of (group_at g k) ≡ Some m → number ≤ m
