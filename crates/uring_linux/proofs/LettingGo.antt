-- What stays so if requests at the front, which have ended in whole groups, are let go.
use Rattle.std.proofs.Common.{◌≡◌, ℕ, zero, suc, ◌+◌, ◌-◌, ◌<◌, ◌≤◌, length, Bool, false, not, List, [], ◌∷◌, drop, slice_get, Option, Some, refl, sym, ◌∙◌, ap, arith, length-drop}
use Rattle.uring_linux.proofs.Common.{IsOver, KeptDrains, LinuxRequests, Request, Requests, Shows, ShowsRequests, Window, and_right, at, cases_lt, count_below, count_below_apart, count_below_same, count_below_zero, dispatch_of, end_of, is_unended, running_among, runs, unended_among}
use Rattle.uring_linux.proofs.WindowLemmas.{at_high, kept}
use Rattle.uring_linux.proofs.WindowEvents.{at_within, roomed}
use Rattle.uring_linux.proofs.WindowCounts.{at_place, there, dispatch_shows}

get_drop : (xs : List Request) (k i j : ℕ) → j ≡ k + i → slice_get (drop k xs) i ≡ slice_get xs j
get_drop xs zero i j e = let same : i ≡ j = omega arith in ap (slice_get xs) same
get_drop [] (suc k) i j e = refl
get_drop (x ∷ xs) (suc k) i zero e = absurd (omega arith)
get_drop (x ∷ xs) (suc k) i (suc j) e = get_drop xs k i j (omega arith)

-- this is left of what was kept
pub record IsLeft (s t : Window) : Type 0 where
  pub low : s.first ≤ t.first
  pub high : t.first ≤ end_of s
  pub items : t.items ≡ drop (t.first - s.first) s.items

pub left_from : (s t : Window) (to : ℕ) → t.first ≡ to → t.items ≡ drop (to - s.first) s.items → IsOver s to
    → IsLeft s t
left_from s t to first items over = grind arith

left_end : (s t : Window) → IsLeft s t → end_of t ≡ end_of s
left_end s t l = grind (arith, length-drop)

left_at : (s t : Window) (n : ℕ) → IsLeft s t → t.first ≤ n → at t n ≡ at s n
left_at s t n l le = grind (arith, at_high, get_drop)

pub left_shows : (s t : Window) (r : Requests) → IsLeft s t → IsOver s t.first → Shows s r → Shows t r
left_shows s t r l over h =
    let low = l.low in
    let high = l.high in
    record {
      count = left_end s t l ∙ h.count;
      told = λ n q e. let w = at_within t n q e in h.told n q (sym (left_at s t n l w.low) ∙ e);
      gone = λ n lt. grind (arith, (cases_lt n s.first), (kept s n), (h.told n), (over.ended n), (h.gone n));
      begins = λ k is. grind (arith, (cases_lt k s.first), (kept s k), (h.told k), (over.last k), (h.begins k));
      later = h.later;
      grouped = λ n q e. let w = at_within t n q e in h.grouped n q (sym (left_at s t n l w.low) ∙ e);
    }

-- The counts.

among_left : (p : Option Request → Bool) (s t : Window) → IsLeft s t
    → ((n : ℕ) (q : Request) → n < t.first → at s n ≡ Some q → p (Some q) ≡ false)
    → count_below (λ k. p (slice_get t.items k)) (length t.items) ≡ count_below (λ k. p (slice_get s.items k)) (length s.items)
among_left p s t l none =
    let low = l.low in
    let high = l.high in
    let end = left_end s t l in
    let gap = t.first - s.first in
    let apart = count_below_apart (λ k. p (slice_get s.items k)) gap (length t.items) in
    let zero_ = count_below_zero (λ k. p (slice_get s.items k)) gap
    (λ k lt.
    let q = there s.items k (omega arith) in
    ap p q.1 ∙ none (s.first + k) q.0 (omega arith) (at_place s k q.0 q.1))
    in
    let same = count_below_same (λ k. p (slice_get t.items k)) (λ k. p (slice_get s.items (gap + k))) (length t.items)
    (λ k lt. ap (λ xs. p (slice_get xs k)) l.items ∙ ap p (get_drop s.items gap k (gap + k) refl))
    in
    let long : gap + length t.items ≡ length s.items = omega arith in
    let all = ap (count_below (λ k. p (slice_get s.items k))) long in
    omega arith

pub left_unended : (s t : Window) → IsLeft s t → IsOver s t.first → unended_among t.items ≡ unended_among s.items
unfolding unended_among
left_unended s t l over = among_left is_unended s t l (λ n q lt e. ap not (over.ended n q lt e))

pub left_running : (s t : Window) → IsLeft s t → IsOver s t.first → running_among t.items ≡ running_among s.items
unfolding running_among
left_running s t l over = among_left runs s t l (λ n q lt e. and_right _ _ (ap not (over.ended n q lt e)))

-- The dispatcher shows the same.

pub dispatch_left : (s t : Window) (d : KeptDrains) (b : Bool) (room left : ℕ) (between amid : Bool) (l : LinuxRequests)
    → ((r : Requests) → Shows s r → Shows t r) → ShowsRequests (dispatch_of s d b room between) l
    → ShowsRequests (dispatch_of t d b left amid) l
dispatch_left s t d b room left between amid l f h =
    dispatch_shows t d b left amid l (f l.requests (roomed s.first s.items 0 s.room l.requests h.held.window)) h.held.drains h.held.skipped
