-- The cells of index words and of the counts that they stand for, over plain numbers, in a ring whose size is a power of two.
-- By arithmetic on remainders alone: nothing here knows of a ring.
-- Stable: rings as shared words are to cite these lemmas too.
use Rattle.std.proofs.Common.{◌≡◌, ℕ, ◌+◌, ◌-◌, ◌%◌, ◌^◌, ◌<◌, ◌≤◌, sym, subst, arith}
use Rattle.std.specs.Int.{IsPowerOfTwo}
use Rattle.uring_rings.proofs.Common.{and_mask, cases_lt, pow_below}
use Rattle.std.proofs.Math.Pow.{mod-mod-pow}
use Rattle.std.specs.Int.RustNames.{bit_and}

-- Numbers less than n apart have one remainder only where they are equal.
same_remainder : (n a b : ℕ) → 0 < n → a ≤ b → b < a + n → a % n ≡ b % n → a ≡ b
same_remainder n a b some ordered near same = grind arith

-- the mask of a power of two, which is one less, keeps the remainder
pub cell_by_mask : (x size : ℕ) → IsPowerOfTwo size → bit_and x (size - 1) ≡ x % size
cell_by_mask x size (k, e) = subst (λ (n : ℕ). bit_and x (n - 1) ≡ x % n) (sym e) (and_mask x k)

-- the cell of a count's word, in a ring whose size is a power of two
pub cell_of_count : (n s k : ℕ) → IsPowerOfTwo n → n ≤ 2 ^ 32 → (s + k) % 2 ^ 32 % n ≡ (s + k) % n
cell_of_count n s k (e, is) fits = grind (arith, cases_lt 32 e, pow_below 32 e, mod-mod-pow (s + k) (32 - e) e)

-- Counts less than the size apart have one cell only where they are equal.
pub same_cell : (n s j k : ℕ) → IsPowerOfTwo n → n ≤ 2 ^ 32 → j ≤ k → k < j + n
    → (s + j) % 2 ^ 32 % n ≡ (s + k) % 2 ^ 32 % n → j ≡ k
same_cell n s j k power fits ordered near same = grind (arith, cell_of_count, same_remainder)
