-- Glue. Which of the outstanding requests wait at the head of their group, and which are doomed.
use Rattle.std.specs.Prelude.{◌≡◌, ℕ, ◌+◌, ◌*◌, ◌/◌, ◌<◌, ◌≤◌, Bool, true, false, not, ◌&&◌, ◌||◌, ◌==◌, Option, Some, None, is_some}
use Rattle.uring_entry.specs.Groups.{is_before}
use Rattle.uring_number_set.specs.NumberSet.{NumberSet, holds, start_of, stop_of, Covers, HasLetGo}
use Rattle.uring_dispatch.specs.declared.request.Request.{Request}
use Rattle.uring_dispatch.specs.declared.group.Group.{Group}
use Rattle.uring_dispatch.specs.declared.waiting.Waiting.{Waiting}
use Rattle.uring_dispatch.specs.Window.{Window, at, end_of}
use Rattle.uring_dispatch.specs.Groups.{Groups, group_at}

-- whether n is the least outstanding member of this group
abbrev pub leads : Option Group → ℕ → Bool
leads None n = false
leads (Some p) n = p.least == n

-- whether this group dooms its member n
abbrev pub dooms : Option Group → ℕ → Bool
dooms None n = false
dooms (Some p) n = is_some p.fault || is_before p.broken n

-- whether this request, of number n, waits at the head of its group
abbrev pub waits_at_head : Groups → Option Request → ℕ → Bool
waits_at_head g None n = false
waits_at_head g (Some q) n = not q.is_running && leads (group_at g q.group) n

-- whether this request, of number n, waits and is doomed
abbrev pub waits_doomed : Groups → Option Request → ℕ → Bool
waits_doomed g None n = false
waits_doomed g (Some q) n = not q.is_running && (dooms (group_at g q.group) n || q.is_cancelled)

-- It is told of n whether it waits at the head of its group, and whether it is doomed.
pub record IsListedAt (w : Window) (g : Groups) (s : Waiting) (n : ℕ) : Type 0 where
  pub head : holds s.heads n ≡ waits_at_head g (at w n) n
  pub doomed : holds s.doomed n ≡ waits_doomed g (at w n) n

-- A set covers the outstanding requests, and may go on after the last, by 63 numbers at most.
pub record Reaches (w : Window) (s : NumberSet) : Type 0 where
  pub start : start_of s ≤ end_of w
  pub stop : end_of w ≤ stop_of s
  pub few : stop_of s ≤ end_of w + 63
  pub low : (n : ℕ) → is_some (at w n) ≡ true → start_of s ≤ n

-- It is told of each request.
pub record IsListed (w : Window) (g : Groups) (s : Waiting) : Type 0 where
  pub told : (n : ℕ) → IsListedAt w g s n
  pub heads : Reaches w s.heads
  pub doomed : Reaches w s.doomed

-- the sets can tell of n
pub record CanTell (s : Waiting) (n : ℕ) : Type 0 where
  pub heads : Covers s.heads n
  pub doomed : Covers s.doomed n

-- the same numbers are covered, with the same memory
pub record IsSameReach (old new : NumberSet) : Type 0 where
  pub start : start_of new ≡ start_of old
  pub stop : stop_of new ≡ stop_of old
  pub limit : new.limit ≡ old.limit

-- What is told of other numbers stays right, and what is covered stays.
pub record Keeps (w : Window) (g : Groups) (old new : Waiting) : Type 0 where
  pub told : (k : ℕ) → IsListedAt w g old k → IsListedAt w g new k
  pub heads : IsSameReach old.heads new.heads
  pub doomed : IsSameReach old.doomed new.doomed

-- What is to be told of the request k is as it was.
pub record StandsAsBefore (w v : Window) (g h : Groups) (k : ℕ) : Type 0 where
  pub head : waits_at_head h (at v k) k ≡ waits_at_head g (at w k) k
  pub doomed : waits_doomed h (at v k) k ≡ waits_doomed g (at w k) k

-- There is no less memory.
pub record HasMemory (old new : Waiting) : Type 0 where
  pub heads : old.heads.limit ≤ new.heads.limit
  pub doomed : old.doomed.limit ≤ new.doomed.limit

-- The set can cover n, the number after those that are covered, or covers it.
pub record CanGrow (s : NumberSet) (n : ℕ) : Type 0 where
  pub start : start_of s ≤ n
  pub stop : n ≤ stop_of s
  pub room : n < s.limit

-- n is covered, and no more is missing than before; after what was covered, only the 64 numbers round n are
pub record GrowsTo (old new : NumberSet) (n : ℕ) : Type 0 where
  pub start : start_of new ≡ start_of old
  pub longer : stop_of old ≤ stop_of new
  pub covered : n < stop_of new
  pub few : (m : ℕ) → stop_of old ≤ 64 * m → n < 64 * m → stop_of new ≤ 64 * m
  pub limit : old.limit ≤ new.limit

-- what is covered begins with n or before it
pub record Starts (s : Waiting) (n : ℕ) : Type 0 where
  pub heads : start_of s.heads ≤ n
  pub doomed : start_of s.doomed ≤ n

-- From here on and up to n the members are told of anew: from the group's least one on, if n's fault is its first.
pub record IsFirstTold (g : Groups) (n key from : ℕ) : Type 0 where
  pub within : from ≤ n
  pub all : (p : Group) → group_at g key ≡ Some p → p.fault ≡ Some n → from ≤ p.least
  pub low : from < n → (p : Group) × (group_at g key ≡ Some p) × (p.least ≤ from)

-- What both sets keep of numbers before this one begins with some that are in them, 64 at a time.
pub record HaveLetGo (s : Waiting) (n : ℕ) : Type 0 where
  pub heads : HasLetGo s.heads.first s.heads.blocks (n / 64)
  pub doomed : HasLetGo s.doomed.first s.doomed.blocks (n / 64)
