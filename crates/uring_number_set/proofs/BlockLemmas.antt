-- Sets of numbers as blocks: what is found at a place, and what a write of a block does to the set. `uring_dispatch` imports `holds_same` and `popped`.
use Rattle.std.specs.Prelude.{drop}
use Rattle.std.proofs.lemmas.Grind.{get_or_default_zero}
use Rattle.std.proofs.Common.{◌≡◌, ◌≢◌, ℕ, ◌+◌, ◌-◌, ◌*◌, ◌/◌, ◌%◌, ◌^◌, ◌<◌, ◌≤◌, List, [], ◌∷◌, ◌++◌, length, get_or, set, Bool, true, false, eqb, bit_and, bit_or, refl, sym, ◌∙◌, ap, arith, w64, length-set, length-append, Option, Some}
use Rattle.std.specs.Int.{bit_at, bit_not, trailing_zeros}
use Rattle.std.specs.Option.{option_to_list}
use Rattle.std.proofs.lemmas.List.{get_or_past, get_or-set_same, get_or-set_other}
use Rattle.std.proofs.lemmas.Nat.Bits.{bit_at-zero, bit_at_above, bit_at_set_same, bit_at_set_other, bit_at_clear_same, bit_at_clear_other, bit_at-trailing_zeros}
use Rattle.std.proofs.lemmas.Nat.{shr-shr, shr_le}
use Rattle.std.proofs.Math.ListN.{get_or-append}
use Rattle.std.proofs.Math.Seq.{get_or-append_seam}
use Rattle.uring_number_set.specs.NumberSet.{NumberSet, block_of, block_at, holds, Covers, Puts, IsLeastFrom, IsLeastOf, HasNoneFrom}

pub block_of_low : (first : ℕ) (blocks : List ℕ) (i : ℕ) → i < first → block_of first blocks i ≡ 0
unfolding block_of
block_of_low first blocks i lt = grind arith

pub block_of_high : (first : ℕ) (blocks : List ℕ) (i : ℕ) → first ≤ i
    → block_of first blocks i ≡ get_or blocks (i - first) 0
unfolding block_of
block_of_high first blocks i le = grind arith

pub block_of_past : (first : ℕ) (blocks : List ℕ) (i : ℕ) → first + length blocks ≤ i
    → block_of first blocks i ≡ 0
block_of_past first blocks i le = grind (arith, block_of_high, get_or_past)

-- a block that is added is zero, as what isn't kept
pub block_of_push : (first : ℕ) (blocks : List ℕ) (i : ℕ)
    → block_of first (blocks ++ 0 ∷ []) i ≡ block_of first blocks i
block_of_push first blocks i =
    grind (arith, (get_or-append_seam blocks 0), (length-append blocks (0 ∷ [])), block_of_low, block_of_high, get_or, get_or_past, get_or-append)

pub block_of_pop : (first : ℕ) (blocks : List ℕ) (i : ℕ)
    → block_of (first + 1) blocks i ≡ block_of first (0 ∷ blocks) i
block_of_pop first blocks i = grind (arith, block_of_low, block_of_high)

-- what is dropped from the front of a queue
pub popped : {X : Type 0} (old new : List X) (r : Option X) (x y : X)
    → old ≡ option_to_list r ++ new → ((d : X) → r ≡ Some (get_or old 0 d)) → x ≡ get_or old 0 x
    → x ≡ y → old ≡ y ∷ new
popped old new r x y e h l is = e ∙ ap (λ o. option_to_list o ++ new) (h x ∙ ap Some (sym l ∙ is))

-- what is left of a list that begins with zero
pub first_out : (old new : List ℕ) → 0 < length old → get_or old 0 0 ≡ 0 → new ≡ drop 1 old → old ≡ 0 ∷ new
first_out [] new lt zero e = absurd (omega arith)
first_out (x ∷ rest) new lt zero e = cc

-- what is read at a covered number's block
pub kept_here : (s : NumberSet) (n block : ℕ) → Covers s n → block ≡ get_or s.blocks (n / 64 - s.first) block
    → block ≡ block_at s (n / 64)
kept_here s n block c e = grind (arith, c.from, c.to, block_of_high, get_or_default_zero)

pub some_of : (n : ℕ) → eqb n 0 ≡ false → 0 < n
some_of n e = grind arith

-- What is in the set.

pub holds_block : (s : NumberSet) (n block : ℕ) → block_at s (n / 64) ≡ block
    → holds s n ≡ eqb (bit_at block (n % 64)) 1
unfolding holds
holds_block s n block e = ap (λ b. eqb (bit_at b (n % 64)) 1) e

pub holds_zero : (s : NumberSet) (n : ℕ) → block_at s (n / 64) ≡ 0 → holds s n ≡ false
holds_zero s n e = holds_block s n 0 e ∙ ap (λ b. eqb b 1) (bit_at-zero (n % 64))

-- the same blocks are the same set
pub holds_same : (s t : NumberSet) → ((i : ℕ) → block_at t i ≡ block_at s i) → (n : ℕ)
    → holds t n ≡ holds s n
holds_same s t same n = holds_block t n (block_at s (n / 64)) (same (n / 64)) ∙ sym (holds_block s n (block_at s (n / 64)) refl)

-- a block is written, in which one bit changes
written : (s t : NumberSet) (n block : ℕ) (now : Bool) → Covers s n → t.first ≡ s.first
    → t.blocks ≡ set s.blocks (n / 64 - s.first) block → t.limit ≡ s.limit
    → eqb (bit_at block (n % 64)) 1 ≡ now
    → ((i : ℕ) → i < 64 → i ≢ n % 64 → bit_at block i ≡ bit_at (block_at s (n / 64)) i)
    → Puts s t n now
written s t n block now c first blocks limit here others =
    grind (arith, c.from, c.to, block_of_high, block_of_low, get_or-set_same, get_or-set_other, length-set, holds_block)

pub written_here : (s t : NumberSet) (n block : ℕ) → Covers s n → t.first ≡ s.first
    → t.blocks ≡ set s.blocks (n / 64 - s.first) block → block_at t (n / 64) ≡ block
written_here s t n block c first blocks = grind (arith, c.from, c.to, block_of_high, get_or-set_same, length-set)

pub insert_puts : (s t : NumberSet) (n block : ℕ) → Covers s n → block ≡ block_at s (n / 64)
    → t.first ≡ s.first
    → t.blocks ≡ set s.blocks (n / 64 - s.first) (bit_or block (1 * 2 ^ (n % 64) % 2 ^ 64))
    → t.limit ≡ s.limit → Puts s t n true
insert_puts s t n block c was first blocks limit =
    written s t n _ true c first blocks limit (grind (arith, bit_at_set_same w64 block (n % 64))) (λ i lt ne. grind (arith, bit_at_set_other w64 block (n % 64)))

pub remove_puts : (s t : NumberSet) (n block : ℕ) → Covers s n → block ≡ block_at s (n / 64)
    → t.first ≡ s.first
    → t.blocks
    ≡ set s.blocks (n / 64 - s.first) (bit_and block (bit_not w64 (1 * 2 ^ (n % 64) % 2 ^ 64)))
    → t.limit ≡ s.limit → Puts s t n false
remove_puts s t n block c was first blocks limit =
    written s t n _ false c first blocks limit (grind (arith, bit_at_clear_same w64 block (n % 64))) (λ i lt ne. grind (arith, bit_at_clear_other w64 block (n % 64)))

-- The lowest bit of a block that isn't zero is in the set.
pub lowest_holds : (s : NumberSet) (place block : ℕ) → block ≡ block_at s place → 0 < block
    → block < 2 ^ 64 → holds s (64 * place + trailing_zeros w64 block) ≡ true
lowest_holds s place block is some fits = grind (arith, (bit_at-trailing_zeros w64 block some fits), holds_block)

-- The least number of a block, from one of its numbers on.

pub block_none : (block n : ℕ) → block / 2 ^ (n % 64) ≡ 0 → HasNoneFrom block n
block_none block n zero k le same = grind (arith, shr-shr block (n % 64) (k % 64 - n % 64))

pub block_least : (block n : ℕ) → block < 2 ^ 64 → 0 < block / 2 ^ (n % 64)
    → IsLeastOf block n (n + trailing_zeros w64 (block / 2 ^ (n % 64)))
block_least block n fits some =
    let zeros : ℕ = trailing_zeros w64 (block / 2 ^ (n % 64)) in
    let low = bit_at-trailing_zeros w64 (block / 2 ^ (n % 64)) some (omega (arith, shr_le block (n % 64))) in
    let here : bit_at block (n % 64 + zeros) ≡ 1 = grind (arith, low.1, shr-shr block (n % 64) zeros) in
    let small : n % 64 + zeros < 64 = grind (arith, bit_at_above block 64 (n % 64 + zeros) fits) in
    record {
      from = omega arith;
      same = omega arith;
      here = grind arith;
      before = λ k le lt. grind (arith, shr-shr block (n % 64) (k - n), low.2 (k - n));
    }

-- The least number of the set from n on: it is in n's block, or else in the first block after it that isn't zero.
pub least_within : (s : NumberSet) (n block m : ℕ) → block ≡ block_at s (n / 64)
    → IsLeastOf block n m → IsLeastFrom s n m
least_within s n block m is l = grind (arith, holds_block)

pub none_from : (s : NumberSet) (n block : ℕ) → block ≡ block_at s (n / 64) → HasNoneFrom block n
    → ((i : ℕ) → n / 64 + 1 ≤ i → block_at s i ≡ 0) → (k : ℕ) → n ≤ k → holds s k ≡ false
none_from s n block is none zeros k le = grind (arith, holds_zero, holds_block)

pub least_after : (s : NumberSet) (n block place found : ℕ) → block ≡ block_at s (n / 64)
    → HasNoneFrom block n → found ≡ block_at s place → 0 < found → found < 2 ^ 64
    → n / 64 + 1 ≤ place → ((i : ℕ) → n / 64 + 1 ≤ i → i < place → block_at s i ≡ 0)
    → IsLeastFrom s n (64 * place + trailing_zeros w64 found)
least_after s n block place found is none at_place some fits after zeros =
    grind (arith, (bit_at-trailing_zeros w64 found some fits), (lowest_holds s place found at_place some fits), holds_zero, holds_block)
