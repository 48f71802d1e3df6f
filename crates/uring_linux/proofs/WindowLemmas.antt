-- What is kept, by numbers, and what it tells.
use Rattle.std.proofs.Common.{◌≡◌, ℕ, ◌-◌, ◌<◌, ◌≤◌, length, List, slice_get, Some, None, ◌∙◌, ap, arith}
use Rattle.uring_linux.proofs.Common.{IsWithin, Request, Requests, Tells, Window, at, if◌then◌else◌, le-ltb, lt-ltb, passes, said, slice_get_cases}
use Rattle.uring_linux.specs.declared.request.Test.{Test}

pub at_low : (s : Window) (n : ℕ) → n < s.first → at s n ≡ None
unfolding at
at_low s n lt = ap (λ b. if b then None else slice_get s.items (n - s.first)) (lt-ltb n s.first lt)

pub at_high : (s : Window) (n : ℕ) → s.first ≤ n → at s n ≡ slice_get s.items (n - s.first)
unfolding at
at_high s n le = ap (λ b. if b then None else slice_get s.items (n - s.first)) (le-ltb n s.first le)

there : (xs : List Request) (i : ℕ) → i < length xs → (q : Request) × (slice_get xs i ≡ Some q)
there xs i lt = grind (arith, (slice_get_cases xs i))

-- what is kept of n
pub kept : (s : Window) (n : ℕ) → IsWithin s n → (q : Request) × (at s n ≡ Some q)
kept s n w =
    let low = w.low in
    let high = w.high in
    let found = there s.items (n - s.first) (omega arith) in
    (found.0, at_high s n low ∙ found.1)

pub not_none : (s : Window) (n : ℕ) → IsWithin s n → None ≡ at s n → ⊥
not_none s n w e = let q = kept s n w in let f : None ≡ Some q.0 = e ∙ q.1 in absurd (cc)

-- what passes a test is what the test says
pub agrees : (t : Test) (q : Request) (r : Requests) (n : ℕ) → Tells q r n → passes t q ≡ said t r n
agrees t q r n h = grind arith
