-- By Linux's rules what isn't deferred waits for no drain: whoever may start has nobody before it that a drain puts there. By what has happened, one submission call, start or end after the other.
use Rattle.std.proofs.Common.{◌≡◌, ℕ, suc, ◌+◌, ◌<◌, ◌≤◌, length, Bool, true, false, not, ◌&&◌, ◌||◌, ◌==◌, List, [], ◌∷◌, refl, arith, inl, inr, rules, subst}
use Rattle.uring_laws.proofs.Common.{Deferred, Drains, End, Happening, IsSettled, LinuxRequests, MayHaveHappened, Requests, Sqe, Start, accepted_faults, accepted_settled, after_going_on, all_between, and_parts, any_kept, both_ways, cases_eq, cases_lt, cond_both, cut_faults, deferred_with, drains, entry_of_accepted_at, false_from_ne_true, group_faulty, has_ended, has_fault, healthy_from, is_alone, is_faulty_from, is_first, is_granted_drain, is_joined_no, is_joined_yes, is_last, is_linked, is_owed_by, length_push, lt-ltb, made_by, may_take, nat_lt, not-true, not_alone, or_parts, order_higher, order_push, order_still, owes_drain, pushed_new, pushed_old, ring_off, some_below_in, some_below_none, some_below_out, some_below_some, takes_drain, true_from_ne_false, with_accepted, with_cut, with_deferred, with_entries, with_group, with_last_entry, with_ring, is_in_faulty_group}
use Rattle.uring_linux.specs.Happenings.{Call}
use Rattle.uring_linux.specs.LinuxRequests.{with_ended}
use Rattle.uring_entry.specs.Requests as manual
use Rattle.uring_entry.proofs.RequestLemmas.{entry_of_accepted_other}
use Rattle.uring_entry.proofs.GroupEvents.{is_last_cut, is_last_cut_last}
use Rattle.uring_linux.proofs.WindowEvents.{last_accepted, last_kept, refused_accepted}
use Rattle.uring_linux.proofs.Standings.{fine_let_in}
use Rattle.uring_laws.proofs.LinuxGroups.{marks, IsTold, AreTold, calm, gone_calm, left_calm}
use Rattle.uring_laws.proofs.LinuxKept.{HasDrain, KeepsGroups, WaitForNone, RingDrains, IsOwed, Holds, IsDrained, more_waits, more_ring, more_told, more_begins, still_holds, more_group, more_owed}

-- Whoever goes on waits for nobody that hasn't ended.

-- as groups go on, whoever isn't deferred waits for nobody
waits_on : (r : Requests) (xs : List Deferred) (high : ℕ) → high ≤ length r.accepted → AreTold r 0 xs high
    → WaitForNone r high xs → WaitForNone r high (after_going_on r xs)
waits_on r xs high low told waits n m lt under apart out right w =
    grind (arith, waits, gone_calm, told, not_alone, true_from_ne_false, both_ways)

-- A group is accepted.

record IsAmid (r : Requests) (d : Drains) : Type 0 where
  some : d.from < length r.accepted
  one : (k : ℕ) → d.from ≤ k → suc k < length r.accepted → is_last r k ≡ false
  last : (k : ℕ) → suc k ≡ length r.accepted → is_last r k ≡ true
  holds : Holds r d

module _ (r : Requests) (d : Drains) (i : IsAmid r d) where
  abbrev g : Deferred
  g = record { from = d.from; end = length r.accepted; drains = d.group }

  abbrev all : List Deferred
  all = deferred_with d (length r.accepted)

  told_new : is_faulty_from r d.from ≡ false → IsTold r g
  told_new right = search (rules, i.holds.begins, i.last, i.one, i.holds.group, (healthy_from r d.from right))

  -- in a group without a fault that isn't told to drain nobody drains
  calm_new : (n : ℕ) → d.group ≡ false → d.from ≤ n → n < length r.accepted → is_in_faulty_group r n ≡ false → drains r n ≡ false
  calm_new n still low high right = grind (arith, (calm r g n), told_new, group_faulty, i.one)

  told_all : is_faulty_from r d.from ≡ false → AreTold r 0 all (length r.accepted)
  told_all right = order_push (IsTold r) 0 d.deferred d.from g (omega arith) i.some (told_new right) i.holds.told

  some_waits : (not d.ring || is_faulty_from r d.from) ≡ true → WaitForNone r (length r.accepted) d.deferred
  some_waits e n m lt under apart out right w = grind (arith, both_ways, calm_new, group_faulty)

  all_waits : WaitForNone r (length r.accepted) all
  all_waits n m lt under apart out right w = grind (arith, (i.holds.waits n m), false_from_ne_true, both_ways, pushed_old, pushed_new)

  -- if none stays deferred after a group that doesn't drain, what drains has ended
  held_ring : is_faulty_from r d.from ≡ false → not d.ring ≡ false
      → RingDrains r (with_ring (with_deferred d (length r.accepted) (after_going_on r all)) d.group)
  held_ring fine rings off m lt other =
      grind (arith, ring_off, pushed_new, true_from_ne_false, both_ways, left_calm, told_all, not_alone)

  -- a group was accepted, and these are deferred now
  drained_by : (xs : List Deferred) (ring : Bool) → AreTold r 0 xs (length r.accepted) → WaitForNone r (length r.accepted) xs
      → (ring ≡ false → (m : ℕ) → m < length r.accepted → HasDrain r m → has_ended r m ≡ true)
      → IsDrained r (record d { ring = ring; from = length r.accepted; group = false; deferred = xs })
  drained_by xs ring told waits off = grind (arith, i.last, i.holds.owed)

  group_drained : IsDrained r (with_group r d)
  group_drained = cond_both (not d.ring || is_faulty_from r d.from) _ _ (IsDrained r)
      (λ some. drained_by d.deferred d.ring (let lt = i.some in order_higher (IsTold r) 0 d.deferred d.from (length r.accepted) (omega (arith, lt)) i.holds.told) (some_waits some) (λ off m lt other. grind (arith, calm_new)))
      (λ none.
      let p = or_parts (not d.ring) (is_faulty_from r d.from) none in
      drained_by (after_going_on r all) _ (order_still (IsTold r) (is_alone r all) 0 all (length r.accepted) (told_all p.1)) (waits_on r all (length r.accepted) (omega arith) (told_all p.1) all_waits) (held_ring p.1 p.0))

-- An entry is accepted.

-- whoever comes right after the end of a group is the first of the next
first_after : (r : Requests) (k : ℕ) → is_first r (suc k) ≡ is_last r k
first_after r k = grind (arith, some_below_none, some_below_some, is_joined_no, is_joined_yes)

module _ (l : LinuxRequests) (e : Sqe) (s : IsSettled l) (i : IsDrained l.requests l.drains) where
  abbrev q : Requests
  q = manual.with_accepted l.requests e

  abbrev last : ℕ
  last = length l.requests.accepted

  abbrev next : Drains
  next = with_last_entry q last l.drains

  more : length q.accepted ≡ last + 1
  more = length_push l.requests.accepted e

  keeps : KeepsGroups l.requests q
  keeps = grind (arith, accepted_faults, entry_of_accepted_other, refused_accepted, last_accepted)

  -- the entry is the first of its group exactly if a group was accepted right before it
  first_is : (l.drains.from == last) ≡ is_first q last
  first_is = grind (arith, first_after, last_accepted, i.amid, i.holds.begins, i.low)

  -- a drain was owed that the entry takes
  was_owed : takes_drain q last ≡ true → l.drains.owed ≡ true
  was_owed takes =
      let found = some_below_in (is_owed_by q last) last (and_parts (may_take q last) _ takes).1 in
      let parts = and_parts (owes_drain q found.0) _ found.2 in
      grind (arith, found, parts, (more_owed l.requests q l.drains keeps i.low i.holds found.0), (some_below_out (λ f. nat_lt found.0 f && may_take q f) last), lt-ltb, not-true)

  group_last : next.group ≡ false → has_fault q last ≡ false → marks q last ≡ false
  group_last still fine =
      let p = or_parts (is_granted_drain q last) _ (or_parts l.drains.group _ still).1 in
      grind (arith, was_owed, first_is, (fine_let_in q last fine), p)

  group : next.group ≡ false → (k : ℕ) → next.from ≤ k → k < length q.accepted → has_fault q k ≡ false → marks q k ≡ false
  group still k le lt fine =
      grind (arith, (cases_eq k last), more, (more_group l.requests q l.drains keeps i.low i.holds), group_last)

  owed_before : l.drains.owed ≡ true → may_take q last ≡ false → next.owed ≡ true
  owed_before owed none = grind (arith, first_is)

  owed_last : owes_drain q last ≡ true → next.owed ≡ true
  owed_last owes = grind (arith, first_is, (and_parts (is_granted_drain q last) _ owes))

  owed : IsOwed q next
  owed k lt owes none = elim (cases_lt k last) [
    | inl before ↦ owed_before (more_owed l.requests q l.drains keeps i.low i.holds k before owes (λ f past low. none f past (omega (arith, low, more)))) (none last before (omega (arith, more)))
    | inr past ↦ owed_last (subst (λ j. owes_drain q j ≡ true) (omega (arith, past, lt, more)) owes)
  ]

  holds : Holds q next
  holds =
      let begins = more_begins l.requests q l.drains keeps i.low i.holds in
      let told = more_told l.requests q l.drains keeps i.low i.holds in
      let waits = more_waits l.requests q l.drains keeps i.low i.holds in
      grind (arith, begins, told, waits, (more_ring l.requests q l.drains keeps i.low i.holds), group, owed, i.holds.on)

  accepted_drained : IsDrained (with_accepted l e).requests (with_accepted l e).drains
  accepted_drained = cond_both (is_linked e) _ _ (IsDrained q)
      (λ linked. record { low = let low = i.low in omega (arith, low, more); amid = grind (arith, last_accepted, more, entry_of_accepted_at, s.later); holds = holds })
      (λ free. group_drained q next (record { some = let low = i.low in omega (arith, low, more); one = grind (arith, last_accepted, i.amid, more); last = grind (arith, entry_of_accepted_at, more); holds = holds }))

entries_drained : (l : LinuxRequests) (entries : List Sqe) → IsSettled l → IsDrained l.requests l.drains
    → IsDrained (with_entries l entries).requests (with_entries l entries).drains
entries_drained l [] s i = i
entries_drained l (e ∷ rest) s i =
    entries_drained (with_accepted l e) rest (accepted_settled l e s) (accepted_drained l e s i)

-- A call closes.

cut_drained : (l : LinuxRequests) → IsDrained l.requests l.drains
    → IsDrained (with_cut l).requests (with_cut l).drains
cut_drained l i =
    let r = manual.with_cut l.requests in
    let holds = still_holds l.requests r l.drains (grind (arith, cut_faults, last_kept)) i.low i.holds refl in
    grind (arith, (group_drained r l.drains), holds, is_last_cut, is_last_cut_last)

-- Whatever happened.

all_drained : (happened : List Happening) → MayHaveHappened happened
    → IsDrained (made_by happened).requests (made_by happened).drains
all_drained [] may = search (rules, arith)
all_drained (Call entries ∷ earlier) may = grind (arith, all_between, cut_drained, entries_drained, (all_drained earlier may.1))
all_drained (Start n ∷ earlier) may =
    let l = made_by earlier in
    let i = all_drained earlier may.1 in
    let holds = still_holds l.requests (manual.with_started l.requests n) l.drains (search (rules, arith)) i.low i.holds refl in
    assumption (holds, i)
all_drained (End n res bytes ∷ earlier) may =
    let l = made_by earlier in
    let i = all_drained earlier may.1 in
    let q = manual.with_ended l.requests n res bytes in
    let h = still_holds l.requests q l.drains (grind (arith, any_kept)) i.low i.holds refl in
    let told = order_still (IsTold q) (is_alone q l.drains.deferred) 0 l.drains.deferred l.drains.from h.told in
    let waits = waits_on q l.drains.deferred l.drains.from i.low h.told h.waits in
    assumption (told, waits, h, i)

-- what isn't deferred, of a group without a fault, waits for nobody that hasn't ended
pub waits_for_none : (happened : List Happening) → MayHaveHappened happened
    → WaitForNone (made_by happened).requests (length (made_by happened).requests.accepted) (made_by happened).drains.deferred
waits_for_none happened may n m lt under apart free right w = grind (arith, all_between, all_drained)
