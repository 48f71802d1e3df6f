-- The laws of joining: of each descriptor one row is left, in their order, which asks all that was asked of it.
use Rattle.std.proofs.Common.{Bool, ◌&&◌, ◌||◌, ◌==◌, max, ◌≡◌, ◌≢◌, ◌<◌, ◌≤◌, ◌+◌, ◌-◌, length, take, get_or, set, ℕ, ⊎_elim, arith, List, get_or-set_other, get_or-set_same}
use Rattle.uring_enter.proofs.Common.{PollRow, bit_at, cases_eq, get_or-take, length-set, length-take-le, take_more_set}
use Rattle.std.proofs.lemmas.List.Quantifiers.{all_pairs_push}
use Rattle.std.specs.Int.RustNames.{bit_or}
use Rattle.std.proofs.lemmas.Nat.Bits.{bit_at_or, bit_at-lt}
use Rattle.std.proofs.lemmas.Bool.Decides.{nat_tests}
use Rattle.uring_enter.specs.Waiting.Joining as spec

-- a row of the same descriptor in the place of another keeps the descriptor of each place
pub same_fd : (xs : List PollRow) (i j : ℕ) (v d : PollRow) → i < length xs → v.fd ≡ (get_or xs i d).fd → (get_or (set xs i v) j d).fd ≡ (get_or xs j d).fd
same_fd xs i j v d l e = ⊎_elim (λ (h : j ≡ i). rw h (rw get_or-set_same e)) (λ (h : j ≢ i). rw (get_or-set_other xs i j v d h)) (cases_eq j i)

pub up_to_joined : (xs : List PollRow) (fd n i : ℕ) (v : PollRow) → n ≡ i + 1 → i < length xs → ((d : PollRow) → v.fd ≡ (get_or xs i d).fd) → spec.AreUpTo fd (take n xs) → spec.AreUpTo fd (take n (set xs i v))
up_to_joined xs fd n i v is l e h k d within =
    let short : k < n = omega (arith, length-take-le n (set xs i v) (omega (arith, length-set xs i v))) in
    rw (get_or-take n (set xs i v) k d short) (rw (same_fd xs i k v d l (e d)) (rw (get_or-take n xs k d short) at (h k d (omega (arith, length-take-le n xs (omega arith))))))

pub once_joined : (xs : List PollRow) (n i : ℕ) (v : PollRow) → n ≡ i + 1 → i < length xs → ((d : PollRow) → v.fd ≡ (get_or xs i d).fd) → spec.EachOnce (take n xs) → spec.EachOnce (take n (set xs i v))
once_joined xs n i v is l e h a b d before within =
    let short : b < n = omega (arith, length-take-le n (set xs i v) (omega (arith, length-set xs i v))) in
    let short_a : a < n = omega arith in
    let old : (get_or (take n xs) a d).fd < (get_or (take n xs) b d).fd = h a b d before (omega (arith, length-take-le n xs (omega arith))) in
    rw (get_or-take n (set xs i v) a d short_a, get_or-take n (set xs i v) b d short) (rw (same_fd xs i a v d l (e d), same_fd xs i b v d l (e d)) (rw (get_or-take n xs a d short_a, get_or-take n xs b d short) at old))

-- a row of another descriptor than the last is past all of them
below : (ys : List PollRow) (row : PollRow) → spec.EachOnce ys → spec.AreUpTo row.fd ys → ((d : PollRow) → 0 < length ys → (get_or ys (length ys - 1) d).fd ≡ row.fd → ⊥) → (k : ℕ) (d : PollRow) → k < length ys → (get_or ys k d).fd < row.fd
below ys row once up other k d within = grind arith

pub once_pushed : (xs : List PollRow) (n : ℕ) (row : PollRow) → n < length xs → spec.EachOnce (take n xs) → spec.AreUpTo row.fd (take n xs) → ((d : PollRow) → 0 < n → (get_or xs (n - 1) d).fd ≡ row.fd → ⊥) → spec.EachOnce (take (n + 1) (set xs n row))
once_pushed xs n row l once up other =
    let len : length (take n xs) ≡ n = length-take-le n xs (omega arith) in
    rw (take_more_set xs n row l) (all_pairs_push (λ earlier later. earlier.fd < later.fd) (take n xs) row once (below (take n xs) row once up
    (λ d some same. other d (omega arith) (rw (get_or-take n xs (n - 1) d (omega arith)) at (rw len at same)))))

pub up_to_pushed : (xs : List PollRow) (n : ℕ) (row : PollRow) → n < length xs → spec.AreUpTo row.fd (take n xs) → spec.AreUpTo row.fd (take (n + 1) (set xs n row))
up_to_pushed xs n row l up k d within =
    let len : length (take n xs) ≡ n = length-take-le n xs (omega arith) in
    let short : k < n + 1 = omega (arith, length-take-le (n + 1) (set xs n row) (omega (arith, length-set xs n row))) in
    rw (get_or-take (n + 1) (set xs n row) k d short)
    (⊎_elim (λ (h : k ≡ n). rw h (rw (get_or-set_same xs n row d l) (omega arith)))
    (λ (h : k ≢ n). let less : k < n = omega arith in rw (get_or-set_other xs n k row d h) (rw (get_or-take n xs k d less) at (up k d (omega arith))))
    (cases_eq k n))

pub up_to_more : (fd middle more : ℕ) (rows : List PollRow) → fd ≡ middle → middle ≤ more → spec.AreUpTo fd rows → spec.AreUpTo more rows
up_to_more fd middle more rows is l up k d within = let h = up k d within in omega (arith, h)

one_of : (a b : ℕ) → a < 2 → b < 2 → (max a b == 1) ≡ (a == 1 || b == 1)
one_of a b la lb = grind (arith, nat_tests)

over : (x a b : Bool) → (x && (a || b)) ≡ (x && a || x && b)
over x a b = grind arith

-- a joined row asks for an event exactly if one of the two does, and polls what both do
pub asks_joined : (fd event : ℕ) → spec.Joins (λ row. row.fd == fd && bit_at row.events event == 1)
asks_joined fd event row other same =
    let bits : bit_at (bit_or row.events other.events) event ≡ max (bit_at row.events event) (bit_at other.events event) = bit_at_or row.events other.events event in
    rw (← same) (rw bits (rw (one_of (bit_at row.events event) (bit_at other.events event) (bit_at-lt row.events event) (bit_at-lt other.events event)) (over (row.fd == fd) (bit_at row.events event == 1) (bit_at other.events event == 1))))

twice : (x : Bool) → x ≡ (x || x)
twice x = grind arith

pub polls_joined : (fd : ℕ) → spec.Joins (λ row. row.fd == fd)
polls_joined fd row other same = rw (← same) (twice (row.fd == fd))
