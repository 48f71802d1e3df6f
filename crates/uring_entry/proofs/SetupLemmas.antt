-- What a set-up refuses.
use Rattle.std.proofs.Common.{ℕ, ◌≤◌, arith, Option}
use Rattle.std.specs.Int.{IsNextPowerOfTwo}
use Rattle.uring_entry.specs.Setup.{IsOutside, IsBadCq}
use Rattle.uring_entry.proofs.Powers.{rounded_once}

-- what lies within its limits isn't outside them
pub not_outside : (low high n : ℕ) → low ≤ n → n ≤ high → IsOutside low high n → ⊥
not_outside low high n from to h = grind arith

-- the submission ring's size is the one way to round it
pub at_any_rounding : (sq size : ℕ) (cq : Option ℕ) → 1 ≤ sq → IsNextPowerOfTwo sq size
    → IsBadCq size cq → (p : ℕ) → IsNextPowerOfTwo sq p → IsBadCq p cq
at_any_rounding sq size cq some rounded bad p also = grind (arith, rounded_once)
