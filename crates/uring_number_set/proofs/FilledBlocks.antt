-- Which blocks are filled, and where they stand: what a number that is put or taken out makes of that.
use Rattle.std.proofs.Common.{◌≡◌, ◌≢◌, ℕ, ◌+◌, ◌*◌, ◌/◌, ◌<◌, ◌≤◌, length, get_or, Bool, true, false, not, refl, ◌∙◌, ap, arith, inl, inr, w64}
use Rattle.std.specs.Int.{trailing_zeros}
use Rattle.std.proofs.lemmas.Bool.{cases_eq, eq-eqb, ne_eqb, both_ways}
use Rattle.std.proofs.lemmas.Nat.Bits.{bit_at-trailing_zeros}
use Rattle.uring_number_set.specs.NumberSet.{NumberSet, block_at, holds, start_of, stop_of, Puts, IsSameSet, IsLeastFrom, IsFilled, HasLetGo}
use Rattle.uring_number_set.proofs.BlockLemmas.{block_of_low, block_of_high, holds_zero, holds_same, lowest_holds}

-- The filled blocks.

pub filled_some : (s f : NumberSet) (i : ℕ) → IsFilled s f → holds f i ≡ true → block_at s i ≢ 0
filled_some s f i h e zero = both_ways _ (h.places i ∙ ap not (eq-eqb (block_at s i) 0 zero)) e

pub filled_none : (s f : NumberSet) (i : ℕ) → IsFilled s f → holds f i ≡ false → block_at s i ≡ 0
filled_none s f i h e = grind arith

-- a number is put into the set
pub insert_filled : (s t f g : NumberSet) (n : ℕ) → IsFilled s f → Puts s t n true
    → Puts f g (n / 64) true → IsFilled t g
insert_filled s t f g n h p q = grind (arith, holds_zero t n, cases_eq, ne_eqb)

-- one is put into a block in which there is one
pub insert_filled_some : (s t f : NumberSet) (n : ℕ) → IsFilled s f → Puts s t n true
    → block_at s (n / 64) ≢ 0 → IsFilled t f
insert_filled_some s t f n h p was = grind (arith, holds_zero t n, cases_eq, ne_eqb)

-- the same blocks have the same places
pub same_filled : (s t f g : NumberSet) → IsFilled s f → IsSameSet s t → IsSameSet f g
    → start_of g ≤ t.first → t.first + length t.blocks ≤ stop_of g
    → stop_of g ≤ t.first + length t.blocks + 63 → t.first / 64 ≤ g.first → IsFilled t g
same_filled s t f g h p q start stop few let_go = grind (arith, holds_same)

-- a number more is covered, and so is the place of its block, by no block more than that needs
pub filled_few : (s t f g : NumberSet) (n : ℕ) → IsFilled s f → n < stop_of t
    → stop_of s ≤ stop_of t → ((m : ℕ) → stop_of f ≤ 64 * m → n / 64 < 64 * m → stop_of g ≤ 64 * m)
    → stop_of g ≤ t.first + length t.blocks + 63
filled_few s t f g n h covered longer no_more = grind (arith, no_more (f.first + length f.blocks), no_more (n / 64 / 64 + 1))

-- The memory isn't part of the set.

pub limit_puts : (s t : NumberSet) (n : ℕ) (now : Bool) (a b : ℕ) → Puts s t n now → b ≡ a
    → Puts (record s { limit = a }) (record t { limit = b }) n now
unfolding holds
limit_puts s t n now a b p same = grind arith

pub limit_least : (s : NumberSet) (a n m : ℕ) → IsLeastFrom s n m
    → IsLeastFrom (record s { limit = a }) n m
unfolding holds
limit_least s a n m l = record { from = l.from; here = l.here; before = l.before }

-- a number whose block is zero needn't be taken out
pub zero_puts : (s : NumberSet) (n : ℕ) → block_at s (n / 64) ≡ 0 → Puts s s n false
zero_puts s n zero = grind (arith, holds_zero)

pub same_set : (s : NumberSet) → IsSameSet s s
same_set s = record { same = λ i. refl; limit = omega arith }

-- What is let go of the filled blocks: none of their places is before the first place of the set, since what isn't kept there is zero.
pub let_go : (s t f g : NumberSet) → IsFilled s f → IsSameSet s t → IsSameSet f g
    → t.first + length t.blocks ≤ stop_of g → HasLetGo g.first g.blocks (t.first / 64)
    → t.first / 64 ≤ g.first
let_go s t f g h p q stop (inl far) = far
let_go s t f g h p q stop (inr (inl none)) = omega (arith, stop, none)
let_go s t f g h p q stop (inr (inr some)) =
    let n : ℕ = 64 * g.first + trailing_zeros w64 (get_or g.blocks 0 0) in
    grind (arith, block_of_high g.first g.blocks g.first, bit_at-trailing_zeros w64 (get_or g.blocks 0 0) some.0 some.1, lowest_holds g g.first (get_or g.blocks 0 0), block_of_low t.first t.blocks n, p.same n, holds_same f g q.same n, h.places n, eq-eqb)
