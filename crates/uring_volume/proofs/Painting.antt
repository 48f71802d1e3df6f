-- Bytes of a file that a write doesn't touch.
use Rattle.std.proofs.Common.{◌≡◌, ◌<◌, ◌≤◌, ◌+◌, ◌*◌, ◌/◌, ℕ, List, ◌++◌, length, take, drop, ◌⊎◌, arith}
use Rattle.uring_volume.proofs.Common.{add-mul, append-nil, div-eq_of_lt-le, drop_all, mul_comm, one-mul, take_all}

pub below_or_from : (k n : ℕ) → (k < n) ⊎ (n ≤ k)
below_or_from k n = grind arith

-- a byte of unit i
pub in_unit : (u i k : ℕ) → u * i ≤ k → k < u * i + u → k / u ≡ i
in_unit u i k from to = div-eq_of_lt-le {k = i} u {m = k} (omega (arith, mul_comm u i)) (omega (arith, mul_comm u i, add-mul i 1 u, one-mul u))

-- what a slice that was written whole makes of the list that it lends from
pub written_back : (now old : List ℕ) (n : ℕ) → n ≡ length old → length now ≡ length old
    → take n (now ++ drop (length now) old) ≡ now
written_back now old n e same = grind (arith, drop_all, append-nil, take_all)
