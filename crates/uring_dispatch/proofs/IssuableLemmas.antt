-- Which requests can be issued, from who waits.
use Rattle.uring_dispatch.proofs.Common.{AreHeld, Group, Groups, HasBefore, IsFirstDraining, IsLeastBelow, IsLeastFrom, IsLimit, IsListed, IsSound, MatchOption, Request, Requests, Waiting, Window, at, can_go, cases_lt, count_below, drain_of, end_of, first_member_inside, group_at, groups_apart, holds, is_issuable, is_ready, is_some_value, least_below, least_below_none, least_below_some, lesser_of, slice_get_past}
use Rattle.std.proofs.Common.{◌≡◌, ℕ, ◌*◌, ◌/◌, ◌<◌, ◌≤◌, length, slice_get, Bool, true, false, ◌&&◌, leb, Option, Some, None, refl, sym, ap, arith}
use Rattle.uring_dispatch.specs.Issuable.{issuables_of, issuable_from}
use Rattle.uring_dispatch.proofs.Counting.{count_below_zero, count_below_past, count_below_same, length_all_below, get_all_below}
use Rattle.uring_dispatch.proofs.WindowFront.{at_past}
use Rattle.uring_dispatch.proofs.HeldLemmas.{InGroup, in_group, its_group, shown_within, doomed_held, not_least, not_alone, ready_held, after_barrier, outstanding_none, issuable_some}

-- The least number that passes a test.

-- this is the least number of which p is true, if there is one
abbrev IsLeastOf : (ℕ → Bool) → Option ℕ → Type 0
IsLeastOf p o = MatchOption o ((k : ℕ) → p k ≡ false) (λ m. (p m ≡ true) × ((k : ℕ) → k < m → p k ≡ false))

least_is : (p q : ℕ → Bool) (n : ℕ) (o : Option ℕ) → IsLeastOf p o → ((k : ℕ) → q k ≡ p k)
    → ((k : ℕ) → q k ≡ true → k < n) → o ≡ least_below q n
least_is p q n None least same within = grind (arith, least_below_none)
least_is p q n (Some m) least same within = grind (arith, (least_below_some q n m))

-- The limit.

module _ {w : Window} {g : Groups} {r : Requests} {n : ℕ} {q : Request} {p : Group} (i : InGroup w g r n q p) where
  -- a request of a kept group has its record
  group_same : (key : ℕ) {b : Group} → group_at g key ≡ Some b → b.from ≤ n → n < b.end → p ≡ b
  group_same key {b} here from to = grind arith

  -- a request after a kept group is of a group that begins after it
  group_after : (key : ℕ) {b : Group} → group_at g key ≡ Some b → b.end ≤ n → b.end ≤ p.from
  group_after key {b} here after =
      let kept = i.sound.kept key b here in
      let shown = i.held.groups key b here in
      grind (arith, (groups_apart r b.from b.end p.from p.end), (i.sound.members key b b.least), (i.sound.members q.group p b.least), is_some_value)

-- where the first group drains from is inside it
first_inside : {w : Window} {g : Groups} {r : Requests} {b : Group} → AreHeld w g r
    → (f : IsFirstDraining g b) → (b.from ≤ f.number) × (f.number < b.end)
first_inside {b = b} h f = grind (arith, first_member_inside, (h.groups f.key b f.here))

-- no request after the first group that drains may start
after_first : {w : Window} {g : Groups} {r : Requests} {n : ℕ} {q : Request} {p b : Group}
    → InGroup w g r n q p → IsFirstDraining g b → b.end ≤ n → is_ready r n ≡ false
after_first i f after = grind (arith, (first_inside i.held f), (group_after i f.key f.here after), after_barrier)

module _ {w : Window} {g : Groups} {r : Requests} (s : IsSound w g) (h : AreHeld w g r) where
  -- no group drains
  pub limit_none : {limit : ℕ} → ((key number : ℕ) → drain_of (group_at g key) ≡ Some number → ⊥)
      → limit ≡ end_of w → IsLimit w g r limit
  limit_none {limit} none e n q p there found least =
      let within = shown_within s h there in
      grind (arith, (ready_held (in_group s h there found) least), (is_some_value p.drain), (none q.group), none)

  -- something before the first group that drains is outstanding
  pub limit_begins : {b : Group} → IsFirstDraining g b → HasBefore w b.from → IsLimit w g r b.from
  limit_begins {b} f before n q p there found least =
      let inside = first_inside h f in
      let i = in_group s h there found in
      grind (arith, (ready_held i least), is_some_value, (f.first q.group), first_member_inside, (cases_lt n b.from), (groups_apart r p.from p.end b.from b.end n i.shown.group (h.groups f.key b f.here).group), i.shown.drain, (group_same i f.key f.here), (not_alone i), (after_first i f))

  -- nothing before it is
  pub limit_ends : {b : Group} → IsFirstDraining g b → ((m : ℕ) → m < b.from → at w m ≡ None)
      → IsLimit w g r b.end
  limit_ends {b} f alone n q p there found least =
      let inside = first_inside h f in
      let i = in_group s h there found in
      grind (arith, (ready_held i least), (group_same i f.key f.here), (after_first i f))

-- The next from one number on.

-- the lesser of what the two searches found is the least that is told of
least_told : (s : Waiting) (n limit : ℕ) (a b : Option ℕ)
    → MatchOption a ((k : ℕ) → n ≤ k → holds s.doomed k ≡ false) (IsLeastFrom s.doomed n)
    → MatchOption b ((k : ℕ) → n ≤ k → k < limit → holds s.heads k ≡ false) (IsLeastBelow s.heads n limit)
    → IsLeastOf (λ k. leb n k && can_go s limit k) (lesser_of a b)
least_told s n limit a b x y = grind arith

-- What the sets tell.

-- a number without a request isn't told of
can_go_gone : {w : Window} {g : Groups} {s : Waiting} (limit n : ℕ) → IsListed w g s
    → at w n ≡ None → can_go s limit n ≡ false
can_go_gone {g = g} limit n l e = grind arith

module _ {w : Window} {g : Groups} {r : Requests} {s : Waiting} (limit : ℕ) (sound : IsSound w g) (h : AreHeld w g r) (l : IsListed w g s)
    (limits : IsLimit w g r limit) where
  -- Told is exactly who can be issued.
  can_go_is : (n : ℕ) → can_go s limit n ≡ is_issuable r n
  can_go_is n = go (at w n) refl
    where
      go : (o : Option Request) → at w n ≡ o → can_go s limit n ≡ is_issuable r n
      go None e = grind (arith, (can_go_gone limit n l e), (outstanding_none h n e))
      go (Some q) e =
          let its = its_group sound h e in
          let p : Group = its.0 in
          grind (arith, (l.told n), (doomed_held its.1), (limits n q p e), (not_least its.1), (issuable_some sound h n e))

  pub next_is : (n : ℕ) (a b : Option ℕ)
      → MatchOption a ((k : ℕ) → n ≤ k → holds s.doomed k ≡ false) (IsLeastFrom s.doomed n)
      → MatchOption b ((k : ℕ) → n ≤ k → k < limit → holds s.heads k ≡ false) (IsLeastBelow s.heads n limit)
      → lesser_of a b ≡ issuable_from r n
  next_is n a b doomed head =
      least_is _ _ (length r.accepted) (lesser_of a b) (least_told s n limit a b doomed head)
      (λ k. ap (λ b. leb n k && b) (sym (can_go_is k)))
      (λ k is. grind arith)

  -- All of them, counted by the blocks of 64.

  -- all are counted up to the last
  pub count_end : (m : ℕ) → end_of w ≤ m → count_below (can_go s limit) m ≡ length (issuables_of r)
  count_end m le =
      grind (arith, (count_below_past (can_go s limit)), can_go_gone, at_past, (count_below_same (can_go s limit) (is_issuable r)), can_go_is, length_all_below)

  -- the one before which so many are counted
  pub nth_is : {n k : ℕ} → can_go s limit n ≡ true → count_below (can_go s limit) n ≡ k
      → Some n ≡ slice_get (issuables_of r) k
  nth_is {n} {k} told counted =
      grind (arith, (count_below_same (can_go s limit) (is_issuable r) n), can_go_is, get_all_below)

-- none is counted before the first that is outstanding
pub count_start : {w : Window} {g : Groups} {s : Waiting} (limit first : ℕ) → IsListed w g s
    → ((n : ℕ) → n < first → at w n ≡ None) → count_below (can_go s limit) (64 * (first / 64)) ≡ 0
count_start {s = s} limit first l none = grind (arith, count_below_zero)

-- there is none after all of them
pub nth_past : (r : Requests) (k : ℕ) → length (issuables_of r) ≤ k
    → None ≡ slice_get (issuables_of r) k
nth_past r k le = sym (slice_get_past (issuables_of r) k le)
