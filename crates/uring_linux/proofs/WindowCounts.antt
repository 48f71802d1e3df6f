-- How many of the requests that are kept haven't ended, and how many run: what each event changes in that.
use Rattle.std.proofs.Common.{◌≡◌, ℕ, ◌+◌, ◌-◌, ◌<◌, ◌≤◌, length, Bool, true, false, not, List, [], ◌∷◌, ◌++◌, set, slice_get, Option, Some, refl, sym, ◌∙◌, ap, arith, length-append, length-set}
use Rattle.uring_linux.proofs.Common.{IsOpen, KeptDrains, LinuxRequests, Request, Requests, Shows, ShowsRequests, Window, and_right, asks_to_skip, at, cases_Bool, count_below, count_below_apart, count_below_changed, count_below_same, count_below_some, count_below_within, count_below_zero, dispatch_of, entry_of, has_ended, is_outstanding, is_running, is_unended, one_if, outstanding_in, running_among, running_in, runs, slice_get_cases, slice_get_within, some_below, unended_among}
use Rattle.uring_linux.proofs.WindowLemmas.{at_high}
use Rattle.uring_linux.proofs.WindowEvents.{push_here, push_other, is_set_here, set_other, at_within, roomed}

-- how many pass a test
abbrev among : (Option Request → Bool) → List Request → ℕ
among p xs = count_below (λ k. p (slice_get xs k)) (length xs)

among_pushed : (p : Option Request → Bool) (xs : List Request) (q : Request)
    → among p (xs ++ q ∷ []) ≡ among p xs + one_if (p (Some q))
among_pushed p xs q = grind (arith, (length-append xs (q ∷ [])), (push_here xs q), count_below_same, push_other)

among_set : (p : Option Request → Bool) (xs : List Request) (i : ℕ) (q : Request) → i < length xs
    → among p (set xs i q) + one_if (p (slice_get xs i)) ≡ among p xs + one_if (p (Some q))
among_set p xs i q lt =
    let changed = count_below_changed (λ k. p (slice_get xs k)) (λ k. p (slice_get (set xs i q) k)) (length xs) i lt (λ j ne. ap p (set_other xs q i j ne)) in
    grind (arith, changed, (is_set_here xs q i lt), (length-set xs i q))

pub unended_none : unended_among [] ≡ 0
unfolding unended_among
unended_none = refl

pub running_none : running_among [] ≡ 0
unfolding running_among
running_none = refl

-- What is kept shows how many are outstanding and running.

pub there : (xs : List Request) (i : ℕ) → i < length xs → (q : Request) × (slice_get xs i ≡ Some q)
there xs i lt = grind (arith, (slice_get_cases xs i))

among_shown : (p : Option Request → Bool) (P : ℕ → Bool) (xs : List Request) (first : ℕ)
    → ((k : ℕ) (q : Request) → slice_get xs k ≡ Some q → p (Some q) ≡ P (first + k))
    → ((n : ℕ) → n < first → P n ≡ false) → among p xs ≡ count_below P (first + length xs)
among_shown p P xs first told none =
    let apart = count_below_apart P first (length xs) in
    let zero_ = count_below_zero P first none in
    let same = count_below_same (λ k. p (slice_get xs k)) (λ k. P (first + k)) (length xs)
    (λ k lt. let q = there xs k lt in ap p q.1 ∙ told k q.0 q.1) in
    omega arith

pub at_place : (s : Window) (k : ℕ) (q : Request) → slice_get s.items k ≡ Some q → at s (s.first + k) ≡ Some q
at_place s k q e = grind (arith, at_high)

pub unended_shown : (s : Window) (r : Requests) → Shows s r → unended_among s.items ≡ outstanding_in r
unfolding unended_among
unended_shown s r h =
    among_shown is_unended (is_outstanding r) s.items s.first
    (λ k q e. grind (arith, (at_place s k q e), (at_within s (s.first + k) q), (h.told (s.first + k) q)))
    (λ n lt. and_right _ _ (ap not (h.gone n lt)))
    ∙ ap (count_below (is_outstanding r)) h.count

pub running_shown : (s : Window) (r : Requests) → Shows s r → running_among s.items ≡ running_in r
unfolding running_among
running_shown s r h =
    among_shown runs (is_running r) s.items s.first
    (λ k q e. grind (arith, (h.told (s.first + k) q (at_place s k q e))))
    (λ n lt. and_right _ _ (ap not (h.gone n lt)))
    ∙ ap (count_below (is_running r)) h.count

-- the dispatcher shows what is kept
pub dispatch_shows : (t : Window) (k : KeptDrains) (c : Bool) (room : ℕ) (between : Bool) (l : LinuxRequests)
    → Shows t l.requests → k.drains ≡ l.drains
    → c ≡ some_below (λ m. asks_to_skip (entry_of l.requests m)) (length l.requests.accepted)
    → ShowsRequests (dispatch_of t k c room between) l
dispatch_shows t k c room between l shows drains skipped = record {
  accepted = shows.count;
  outstanding = unended_shown t l.requests shows;
  running = running_shown t l.requests shows;
  held = record { window = roomed t.first t.items t.room 0 l.requests shows; drains = drains; skipped = skipped };
}

-- Both counts.

-- this counts those that pass the test
pub record Counts (p : Option Request → Bool) (f : List Request → ℕ) : Type 0 where
  pub is : (xs : List Request) → f xs ≡ among p xs

pub unended_counts : Counts is_unended unended_among
unfolding unended_among
unended_counts = record { is = λ xs. refl }

pub running_counts : Counts runs running_among
unfolding running_among
running_counts = record { is = λ xs. refl }

pub kept_at : (s : Window) (n : ℕ) (q : Request) → at s n ≡ Some q → slice_get s.items (n - s.first) ≡ Some q
kept_at s n q e = let w = at_within s n q e in sym (at_high s n w.low) ∙ e

module _ {p : Option Request → Bool} {f : List Request → ℕ} (c : Counts p f) where
  pub count_within : (xs : List Request) → f xs ≤ length xs
  count_within xs = let few = count_below_within (λ k. p (slice_get xs k)) (length xs) in let all = c.is xs in omega arith

  pub count_pushed : (xs : List Request) (q : Request) → f (xs ++ q ∷ []) ≡ f xs + one_if (p (Some q))
  count_pushed xs q = c.is (xs ++ q ∷ []) ∙ among_pushed p xs q ∙ ap (λ k. k + one_if (p (Some q))) (sym (c.is xs))

  -- one request is written anew
  pub count_written : (s : Window) (n : ℕ) (q t : Request) → at s n ≡ Some q
      → f (set s.items (n - s.first) t) + one_if (p (Some q)) ≡ f s.items + one_if (p (Some t))
  count_written s n q t e =
      let here = kept_at s n q e in
      let change = among_set p s.items (n - s.first) t (slice_get_within s.items (n - s.first) q here) in
      grind (arith, change, here, (c.is (set s.items (n - s.first) t)), (c.is s.items))

  pub count_same : (s : Window) (n : ℕ) (q t : Request) → at s n ≡ Some q → p (Some t) ≡ p (Some q)
      → f (set s.items (n - s.first) t) ≡ f s.items
  count_same s n q t e same = grind (arith, (count_written s n q t e))

  -- one that passes is counted
  pub count_some : (s : Window) (n : ℕ) (q : Request) → at s n ≡ Some q → one_if (p (Some q)) ≤ f s.items
  count_some s n q e =
      let here = kept_at s n q e in
      let some = count_below_some (λ k. p (slice_get s.items k)) (length s.items) (n - s.first) (slice_get_within s.items (n - s.first) q here) in
      grind (arith, some, here, (c.is s.items), (cases_Bool (p (Some q))))

pub unended_one : (s : Window) (n : ℕ) (q : Request) → at s n ≡ Some q → is_unended (Some q) ≡ true
    → 0 < unended_among s.items
unended_one s n q e open_ =
    grind (arith, (count_some unended_counts s n q e))

-- Whatever room there is.

pub at_roomed : (s : Window) (room n : ℕ) → at (record s { room = room }) n ≡ at s n
unfolding at
at_roomed s room n = refl

-- what is open, from what is kept
pub open_at : (s : Window) (n : ℕ) (q : Request) (running : Bool) → at s n ≡ Some q → q.has_ended ≡ false
    → q.is_running ≡ running → IsOpen (record s { room = 0 }) n running
open_at s n q running e open_ run = grind (arith, at_roomed)
