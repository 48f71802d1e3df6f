-- How many requests are outstanding: none exactly if the count is 0, and one less with each end of one of them.
-- By induction over the numbers below the count of accepted requests.
-- Stable: other crates may import `none_outstanding`, `all_ended`, `ended_less` and `count_below_zero`.
use Rattle.std.proofs.Common.{◌≡◌, ℕ, zero, suc, ◌+◌, ◌<◌, Bool, true, false, ℤ, List, length, refl, arith}
use Rattle.uring_core.proofs.Common.{Requests, and_parts, has_ended_other, has_ended_same, is_outstanding, ltb-true, outstanding_in, with_ended}
use Rattle.uring_entry.specs.Below.{count_below}
use Rattle.uring_dispatch.proofs.Counting.{count_below_changed, count_below_some}

-- nothing is counted that isn't there
pub count_below_zero : (p : ℕ → Bool) (n : ℕ) → ((k : ℕ) → k < n → p k ≡ false)
    → count_below p n ≡ 0
count_below_zero p zero none = refl
count_below_zero p (suc n) none = grind (arith, (count_below_zero p n (λ k lt. none k (omega arith))))

-- where none is counted, none is outstanding
pub none_outstanding : (r : Requests) → outstanding_in r ≡ 0 → (n : ℕ) → is_outstanding r n ≡ false
none_outstanding r none n = grind (arith, (count_below_some (is_outstanding r) (length r.accepted) n), ltb-true)

-- where none is outstanding, none is counted
pub all_ended : (r : Requests) → ((n : ℕ) → is_outstanding r n ≡ false) → outstanding_in r ≡ 0
all_ended r none = count_below_zero (is_outstanding r) (length r.accepted) (λ n lt. none n)

-- an end of an outstanding request makes it one less
pub ended_less : (r : Requests) (n : ℕ) (res : ℤ) (bytes : List ℕ) → is_outstanding r n ≡ true
    → outstanding_in (with_ended r n res bytes) + 1 ≡ outstanding_in r
ended_less r n res bytes outstanding =
    grind (arith, (count_below_changed (is_outstanding r) (is_outstanding (with_ended r n res bytes)) (length r.accepted) n), has_ended_same, has_ended_other, ltb-true, and_parts)
