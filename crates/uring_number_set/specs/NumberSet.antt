-- Glue. Sets of numbers, of a window that moves up: our own structure.
use Rattle.std.specs.Prelude.{◌≡◌, ◌≢◌, ℕ, ◌+◌, ◌-◌, ◌*◌, ◌/◌, ◌%◌, ◌^◌, ◌<◌, ◌≤◌, Bool, true, false, not, nat_lt, ◌==◌, List, length, slice_index_or, if◌then◌else◌, ◌⊎◌}
use Rattle.std.specs.Int.{bit_at}

-- A set of numbers, 64 of them to a block: the place of the first block that is kept, the blocks from there on, and the number below which there is memory for them.
pub record NumberSet : Type 0 where
  pub first : ℕ
  pub blocks : List ℕ
  pub limit : ℕ

-- the block at a place, which is zero if it isn't kept
unfoldable pub block_of : ℕ → List ℕ → ℕ → ℕ
block_of first blocks i = if nat_lt i first then 0 else slice_index_or blocks (i - first) 0

-- the block at a place of this set
abbrev pub block_at : NumberSet → ℕ → ℕ
block_at s i = block_of s.first s.blocks i

-- whether n is in the set
unfoldable pub holds : NumberSet → ℕ → Bool
holds s n = bit_at (block_at s (n / 64)) (n % 64) == 1

-- the first number that is covered
abbrev pub start_of : NumberSet → ℕ
start_of s = 64 * s.first

-- the number after those that are covered
abbrev pub stop_of : NumberSet → ℕ
stop_of s = 64 * (s.first + length s.blocks)

-- n can be put into the set
pub record Covers (s : NumberSet) (n : ℕ) : Type 0 where
  pub from : start_of s ≤ n
  pub to : n < stop_of s

-- n is in the set now if this holds, and every other number keeps what it had.
pub record Puts (old new : NumberSet) (n : ℕ) (now : Bool) : Type 0 where
  pub here : holds new n ≡ now
  pub others : (k : ℕ) → k ≢ n → holds new k ≡ holds old k
  pub blocks : (i : ℕ) → i ≢ n / 64 → block_at new i ≡ block_at old i
  pub start : new.first ≡ old.first
  pub stop : length new.blocks ≡ length old.blocks
  pub limit : new.limit ≡ old.limit

-- The same numbers are in the set, and there is no less memory.
pub record IsSameSet (old new : NumberSet) : Type 0 where
  pub same : (i : ℕ) → block_at new i ≡ block_at old i
  pub limit : old.limit ≤ new.limit

-- m is the least number in the set from n on
pub record IsLeastFrom (s : NumberSet) (n m : ℕ) : Type 0 where
  pub from : n ≤ m
  pub here : holds s m ≡ true
  pub before : (k : ℕ) → n ≤ k → k < m → holds s k ≡ false

-- no number from n on has its bit in n's block, which is this one
abbrev pub HasNoneFrom : ℕ → ℕ → Type 0
HasNoneFrom block n = (k : ℕ) → n ≤ k → k / 64 ≡ n / 64 → bit_at block (k % 64) ≡ 0

-- m is the least number from n on that has its bit in n's block, which is this one
pub record IsLeastOf (block n m : ℕ) : Type 0 where
  pub from : n ≤ m
  pub same : m / 64 ≡ n / 64
  pub here : bit_at block (m % 64) ≡ 1
  pub before : (k : ℕ) → n ≤ k → k < m → bit_at block (k % 64) ≡ 0

-- the first of the blocks from this place on that isn't zero
pub record IsFirstFilled (blocks : List ℕ) (from i : ℕ) : Type 0 where
  pub from_on : from ≤ i
  pub within : i < length blocks
  pub filled : slice_index_or blocks i 0 ≢ 0
  pub before : (k : ℕ) → from ≤ k → k < i → slice_index_or blocks k 0 ≡ 0

-- the first place from this one on at which a set's block isn't zero
pub record IsFirstBlock (s : NumberSet) (from i : ℕ) : Type 0 where
  pub from_on : from ≤ i
  pub filled : block_at s i ≢ 0
  pub before : (k : ℕ) → from ≤ k → k < i → block_at s k ≡ 0
  pub fits : i < s.first + length s.blocks

-- What is so of a set and the set of its filled blocks, whatever happened: the places of those that aren't zero are in it, and it covers all places. It keeps no more than that takes: it covers the rest of 64 places at most after the last, and what it had for places before the first has been let go.
pub record IsFilled (numbers filled : NumberSet) : Type 0 where
  pub places : (i : ℕ) → holds filled i ≡ not (block_at numbers i == 0)
  pub start : start_of filled ≤ numbers.first
  pub stop : numbers.first + length numbers.blocks ≤ stop_of filled
  pub few : stop_of filled ≤ numbers.first + length numbers.blocks + 63
  pub let_go : numbers.first / 64 ≤ filled.first

-- The same set over the same numbers, with no less memory.
pub record HasSame (old new : NumberSet) : Type 0 where
  pub same : IsSameSet old new
  pub start : new.first ≡ old.first
  pub stop : stop_of new ≡ stop_of old

-- The same set, which covers n too, and no more than was covered and the 64 numbers round n.
pub record HasGrown (old new : NumberSet) (n : ℕ) : Type 0 where
  pub same : IsSameSet old new
  pub start : new.first ≡ old.first
  pub longer : stop_of old ≤ stop_of new
  pub covered : n < stop_of new
  pub few : (m : ℕ) → stop_of old ≤ 64 * m → n < 64 * m → stop_of new ≤ 64 * m

-- a number is in this block of 64
abbrev pub IsFilledBlock : ℕ → Type 0
IsFilledBlock block = (0 < block) × (block < 2 ^ 64)

-- These blocks begin at this place or after it, or with one in which a number is; or there are none.
abbrev pub HasLetGo : ℕ → List ℕ → ℕ → Type 0
HasLetGo first blocks place =
    (place ≤ first) ⊎ ((length blocks ≡ 0) ⊎ IsFilledBlock (slice_index_or blocks 0 0))

-- The same set, which may cover fewer numbers, but no fewer of those from n on. What is kept before n begins with a block that isn't zero.
pub record HasMoved (old new : NumberSet) (n : ℕ) : Type 0 where
  pub same : IsSameSet old new
  pub start : (m : ℕ) → start_of old ≤ m → n ≤ m → start_of new ≤ m
  pub stop : stop_of new ≡ stop_of old
  pub far : HasLetGo new.first new.blocks (n / 64)
