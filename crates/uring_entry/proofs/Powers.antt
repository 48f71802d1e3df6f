-- Powers of two, and sizes rounded up to them.
use Rattle.std.proofs.Common.{◌≡◌, ℕ, ◌*◌, ◌≤◌, arith}
use Rattle.uring_entry.proofs.Common.{IsNextPowerOfTwo, IsPowerOfTwo, cases_lt}
use Rattle.std.proofs.Math.Pow.{pow_mono}
use Rattle.std.proofs.Math.Nat.{pow-suc}

-- a size within a power of two is within it after rounding: of two powers, the one below twice the other is at most the other
pub rounded_within : (n p q : ℕ) → IsNextPowerOfTwo n p → IsPowerOfTwo q → 1 ≤ n → n ≤ q → p ≤ q
rounded_within n p q ((a, p_is), above, below) (b, q_is) some within = grind (arith, (cases_lt b a), (pow-suc 2 b), pow_mono)

-- a size is rounded in one way
pub rounded_once : (n p q : ℕ) → IsNextPowerOfTwo n p → IsNextPowerOfTwo n q → 1 ≤ n → p ≡ q
rounded_once n p q first second some =
    grind (arith, (rounded_within n p q first second.0 some second.1), (rounded_within n q p second first.0 some first.1))

-- twice a power of two is rounded already
pub double_rounded : (p : ℕ) → IsPowerOfTwo p → IsNextPowerOfTwo (2 * p) (2 * p)
double_rounded p (a, p_is) = grind (arith, (pow-suc 2 a))
