-- With something outstanding, the least outstanding request that isn't deferred runs or can be issued.
use Rattle.std.proofs.Common.{◌≡◌, ℕ, ◌<◌, length, Bool, true, false, not, ◌&&◌, ◌⊎◌, List, Some, is_some, ◌∙◌, ap, arith, inl, inr}
use Rattle.uring_linux.proofs.Common.{Deferred, IsLeast, LinuxRequests, Requests, and_from, cases_Bool, cases_lt, count_below_some, has_ended, is_alone, is_deferred, is_in_some, is_in_turn, is_issuable, is_outstanding, is_running, is_some_least_below, is_some_value, keeps_back, least_below_tells, least_free_of, least_of, next_of, not-false, running_in, some_below, some_below_in, some_below_none, some_below_some}
use Rattle.uring_linux.specs.Happenings.{Happening, made_by, MayHaveHappened}
use Rattle.uring_linux.specs.Laws.{GoesOn}
use Rattle.uring_linux.proofs.Deferring.{HasGoneOn, held_by, after_joined}
use Rattle.uring_linux.proofs.Reaching.{IsSettled, all_between}

abbrev is_free : LinuxRequests → ℕ → Bool
is_free l n = is_outstanding l.requests n && not (is_deferred l n)

some_apart : (r : Requests) (xs : List Deferred) → is_alone r xs ≡ false
    → some_below (λ k. not (has_ended r k) && not (is_in_some xs k)) (length r.accepted) ≡ true
unfolding is_alone
some_apart r xs e = not-false _ e

-- something that is outstanding isn't deferred
some_free : (l : LinuxRequests) (n : ℕ) → HasGoneOn l.requests l.drains.deferred → n < length l.requests.accepted
    → is_outstanding l.requests n ≡ true → some_below (is_free l) (length l.requests.accepted) ≡ true
some_free l n (inl none) lt e = some_below_some (is_free l) (length l.requests.accepted) n lt (grind arith)
some_free l n (inr apart) lt e =
    let found = some_below_in _ (length l.requests.accepted) (some_apart l.requests l.drains.deferred apart) in
    some_below_some (is_free l) (length l.requests.accepted) found.0 found.1 (grind (arith, found.1, found.2))

-- the least of them is in its turn
free_turn : (l : LinuxRequests) (m : ℕ) → IsSettled l → IsLeast (is_free l) (length l.requests.accepted) m
    → is_in_turn l.requests m ≡ true
unfolding is_in_turn
free_turn l m s least =
    let r = l.requests in
    let below = least.below in
    ap not
    (some_below_none (keeps_back r m) m
    (λ j lt.
    elim (cases_Bool (is_deferred l j)) [
      | inl held ↦
          let h = held_by r 0 l.drains.deferred l.drains.from j s.waiting held in
          grind (arith, (cases_lt m h.group.end), (h.members m), (after_joined r h.group j m h.waiting h.high), least.holds)
      | inr free ↦ grind (arith, (least.before j lt))
    ]))

free_goes : (l : LinuxRequests) (m : ℕ) → IsSettled l → IsLeast (is_free l) (length l.requests.accepted) m
    → (is_running l.requests m ≡ true) ⊎ (is_issuable l m ≡ true)
free_goes l m s least = grind (arith, and_from, free_turn)

pub goes_on_from : (happened : List Happening) (n : ℕ) → MayHaveHappened happened
    → least_of (made_by happened).requests ≡ Some n → GoesOn (made_by happened)
goes_on_from happened n may e =
    let l = made_by happened in
    let s = (all_between happened may).settled in
    let first = least_below_tells (is_outstanding l.requests) (length l.requests.accepted) n e in
    let found = is_some_value (least_free_of l) (is_some_least_below (is_free l) (length l.requests.accepted) ∙ some_free l n s.gone first.below first.holds) in
    record {
      number = found.0;
      least = found.1;
      goes = free_goes l found.0 s (least_below_tells (is_free l) (length l.requests.accepted) found.0 found.1);
    }

not_running : (r : Requests) (m : ℕ) → running_in r ≡ 0 → m < length r.accepted → is_running r m ≡ true → ⊥
not_running r m none lt e = let some = count_below_some (is_running r) (length r.accepted) m lt e in omega arith

pub something_issuable : (happened : List Happening) (n : ℕ) → MayHaveHappened happened
    → least_of (made_by happened).requests ≡ Some n → running_in (made_by happened).requests ≡ 0
    → is_some (next_of (made_by happened)) ≡ true
something_issuable happened n may e none =
    let l = made_by happened in
    let g = goes_on_from happened n may e in
    let least = least_below_tells (is_free l) (length l.requests.accepted) g.number g.least in
    is_some_least_below (is_issuable l) (length l.requests.accepted)
    ∙ elim g.goes [
      | inl runs ↦ absurd (not_running l.requests g.number none least.below runs)
      | inr issuable ↦ some_below_some (is_issuable l) (length l.requests.accepted) g.number least.below issuable
    ]
