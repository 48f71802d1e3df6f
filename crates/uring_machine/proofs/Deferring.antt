-- By Linux's rules whatever was started comes before whatever is deferred: groups are deferred in their order, go on in that order, and no later group starts before them.
use Rattle.std.proofs.Common.{◌≡◌, ℕ, suc, ◌+◌, ◌<◌, ◌≤◌, ℤ, length, Bool, true, false, not, ◌||◌, List, [], ◌∷◌, ◌++◌, refl, ◌∙◌, ap, arith, length-append}
use Rattle.uring_machine.proofs.Common.{LinuxRequests, Requests, added_other, after_going_on, and_parts, both_ways, cases_eq, cases_lt, entry_of_accepted_at, has_started, if◌then◌else◌, is_alone, is_deferred, is_doomed, is_faulty_from, is_in_faulty_group, is_issuable, is_last, is_linked, is_outstanding, ltb-true, nat_lt, not-false, not-true, or_parts, with_accepted, with_cut, with_ended, with_group, with_last_entry}
use Rattle.uring_entry.specs.Layout.{Sqe}
use Rattle.uring_entry.specs.Requests as manual
use Rattle.uring_entry.proofs.GroupEvents.{is_last_cut}
use Rattle.uring_linux.specs.declared.deferred.Deferred.{Deferred}
use Rattle.uring_linux.specs.Drains.{Drains, is_in_some, still_deferred, deferred_with, with_deferred, with_ring}
use Rattle.uring_linux.specs.Happenings.{Happening, Call, Start, End, with_entries, made_by, MayHaveHappened}
use Rattle.uring_linux.proofs.WindowEvents.{last_accepted}
use Rattle.uring_linux.proofs.Deferring.{IsWaiting}
use Rattle.uring_linux.proofs.InOrder.{InOrder, in_pushed, pushed_new, pushed_old, still_fewer, ring_off, order_push, still_before, order_kept}
use Rattle.uring_linux.proofs.FaultsKept.{faulty_kept, accepted_faults, cut_faults, faulty_started, faulty_ended, group_faulty}
use Rattle.uring_linux.proofs.Reaching.{IsSettled, IsBetween, accepted_settled, entries_settled, all_between}
use Rattle.uring_core.proofs.LinuxHistories.{StartsSpared}

-- What is so whatever happened.

-- whoever isn't deferred after someone who is, is in a group with a fault
abbrev OnlyFaultyPass : Requests → ℕ → List Deferred → Type 0
OnlyFaultyPass r from xs = (n k : ℕ) → n < from → k < n → is_in_some xs k ≡ true
    → is_in_some xs n ≡ false → is_in_faulty_group r n ≡ true

-- of any group
abbrev IsAny : Deferred → Type 0
IsAny g = Unit {0}

-- the groups that are deferred are in order
in_order : (l : LinuxRequests) → IsSettled l → InOrder IsAny 0 l.drains.deferred l.drains.from
in_order l s = order_kept (IsWaiting l.requests) IsAny 0 l.drains.deferred l.drains.from s.waiting (λ g there some within w. tt)

-- of the requests
pub record IsOrdered (l : LinuxRequests) : Type 0 where
  pub amid : (k : ℕ) → l.drains.from ≤ k → k < length l.requests.accepted → is_last l.requests k ≡ false
  pub ring : l.drains.ring ≡ false → l.drains.deferred ≡ []
  pub passed : OnlyFaultyPass l.requests l.drains.from l.drains.deferred
  pub known : (n : ℕ) → has_started l.requests n ≡ true → n < l.drains.from
  pub started : (n k : ℕ) → has_started l.requests n ≡ true → is_deferred l k ≡ true → n < k

-- a whole group was accepted after what was ordered
group_ordered : (r : Requests) (d : Drains) → d.from < length r.accepted
    → ((k : ℕ) → d.from ≤ k → suc k < length r.accepted → is_last r k ≡ false)
    → InOrder IsAny 0 d.deferred d.from → (d.ring ≡ false → d.deferred ≡ [])
    → OnlyFaultyPass r d.from d.deferred
    → ((n : ℕ) → has_started r n ≡ true → n < d.from)
    → ((n k : ℕ) → has_started r n ≡ true → is_in_some d.deferred k ≡ true → n < k)
    → IsOrdered (record { requests = r; drains = with_group r d })
group_ordered r d some open_ order ring passed known started = go (not d.ring || is_faulty_from r d.from) refl where
  g : Deferred
  g = record { from = d.from; end = length r.accepted; drains = d.group }

  all : List Deferred
  all = d.deferred ++ g ∷ []

  all_order : InOrder IsAny 0 all (length r.accepted)
  all_order = order_push IsAny 0 d.deferred d.from g (omega arith) some tt order

  -- nobody before it is in the new group
  is_old : (k : ℕ) → k < d.from → is_in_some all k ≡ true → is_in_some d.deferred k ≡ true
  is_old k lt e = grind (arith, in_pushed)

  gone_on : (alone : Bool) (n k : ℕ) → n < length r.accepted → k < n → is_in_some (still_deferred alone all) k ≡ true → is_in_some (still_deferred alone all) n ≡ false → is_in_faulty_group r n ≡ true
  gone_on alone n k lt under there out =
      grind (arith, still_before, all_order, passed, is_old, still_fewer, both_ways, pushed_old, (pushed_new d.deferred g))

  go : (b : Bool) → (not d.ring || is_faulty_from r d.from) ≡ b
      → IsOrdered (record { requests = r; drains = if b then with_deferred d (length r.accepted) d.deferred else with_ring (with_deferred d (length r.accepted) (after_going_on r (deferred_with d (length r.accepted)))) d.group })
  go b e = grind (arith, ring, passed, not-true, group_faulty, not-false, or_parts, ring_off, gone_on, is_old, still_fewer, known, started)

accepted_ordered : (l : LinuxRequests) (e : Sqe) → IsSettled l → IsOrdered l → IsOrdered (with_accepted l e)
accepted_ordered l e s o = go (is_linked e) refl where
  r : Requests
  r = manual.with_accepted l.requests e

  d : Drains
  d = with_last_entry r (length l.requests.accepted) l.drains

  more : length r.accepted ≡ length l.requests.accepted + 1
  more = length-append l.requests.accepted (e ∷ [])

  ring : d.ring ≡ false → d.deferred ≡ []
  ring off = o.ring (or_parts l.drains.ring _ off).0

  passed : OnlyFaultyPass r l.drains.from l.drains.deferred
  passed n k lt under there out = grind (arith, faulty_kept, accepted_faults)

  new_open : is_linked e ≡ true → is_last r (length l.requests.accepted) ≡ false
  new_open linked = grind (arith, (entry_of_accepted_at l.requests e), (s.later (length l.requests.accepted) (omega arith)).cut)

  go : (b : Bool) → is_linked e ≡ b → IsOrdered (record { requests = r; drains = if b then d else with_group r d })
  go true linked = record {
    amid = λ k le lt. grind (arith, (last_accepted l.requests e k), (o.amid k), more, new_open, (cases_lt k (length l.requests.accepted)), (cases_eq k (length l.requests.accepted)));
    ring = ring;
    passed = passed;
    known = o.known;
    started = o.started;
  }
  go false free =
      let low = s.low in
      let some : d.from < length r.accepted = omega (arith, low, more) in
      group_ordered r d some (λ k le lt. grind (arith, (last_accepted l.requests e k), (o.amid k), more)) (in_order l s) ring passed o.known o.started

entries_ordered : (l : LinuxRequests) (entries : List Sqe) → IsSettled l → IsOrdered l
    → IsOrdered (with_entries l entries)
entries_ordered l [] s o = o
entries_ordered l (e ∷ rest) s o =
    entries_ordered (with_accepted l e) rest (accepted_settled l e s) (accepted_ordered l e s o)

cut_ordered : (l : LinuxRequests) → IsSettled l → IsOrdered l → IsOrdered (with_cut l)
cut_ordered l s o = go (nat_lt l.drains.from (length l.requests.accepted)) refl where
  r : Requests
  r = manual.with_cut l.requests

  passed : OnlyFaultyPass r l.drains.from l.drains.deferred
  passed n k lt under there out = let low = s.low in faulty_kept l.requests r (cut_faults l.requests) n (omega arith) (o.passed n k lt under there out)

  go : (b : Bool) → nat_lt l.drains.from (length l.requests.accepted) ≡ b → IsOrdered (record { requests = r; drains = if b then with_group r l.drains else l.drains })
  go true e =
      let some : l.drains.from < length r.accepted = ltb-true _ _ e in
      group_ordered r l.drains some (λ k le lt. is_last_cut l.requests k (λ f. absurd (omega (arith, f, lt))) ∙ o.amid k le (omega arith)) (in_order l s) o.ring passed o.known o.started
  go false e = grind (arith, o, passed)

-- A request starts or ends.

start_ordered : (l : LinuxRequests) (n : ℕ) → IsOrdered l → length l.requests.accepted ≤ l.drains.from
    → is_issuable l n ≡ true → is_doomed l.requests n ≡ false
    → IsOrdered (record l { requests = manual.with_started l.requests n })
start_ordered l n o closed can spared =
    let low : n < length l.requests.accepted = ltb-true _ _ (and_parts _ _ (and_parts (is_outstanding l.requests n) _ can).0).0 in
    record {
      amid = o.amid;
      ring = o.ring;
      passed = λ m k lt under there out. faulty_started l.requests n m ∙ o.passed m k lt under there out;
      known = grind (arith, added_other);
      -- what starts, and isn't doomed, comes before whatever is deferred
      started = λ m k is there. grind (arith, (cases_lt n k), (cases_eq n k), (o.passed n k), (o.started m k), added_other);
    }

end_ordered : (l : LinuxRequests) (n : ℕ) (res : ℤ) (bytes : List ℕ) → IsBetween l → IsOrdered l
    → IsOrdered (with_ended l n res bytes)
end_ordered l n res bytes b o =
    let closed = b.closed in
    let r : Requests = manual.with_ended l.requests n res bytes in
    let alone : Bool = is_alone r l.drains.deferred in
    record {
      amid = λ k le lt. absurd (omega (arith, le, lt, closed));
      ring = λ off. ap (still_deferred alone) (o.ring off);
      passed = grind (arith, faulty_ended, still_before, in_order, still_fewer);
      known = o.known;
      started = λ m k is there. o.started m k is (still_fewer alone l.drains.deferred k there);
    }

-- Whatever happened, if nobody started that was doomed.

pub all_ordered : (happened : List Happening) → MayHaveHappened happened → StartsSpared happened
    → IsOrdered (made_by happened)
all_ordered [] may spared = grind arith
all_ordered (Call entries ∷ earlier) may spared =
    grind (arith, all_between, cut_ordered, with_entries, entries_settled, entries_ordered, (all_ordered earlier may.1 spared.1))
all_ordered (Start n ∷ earlier) may spared = grind (arith, start_ordered, (all_ordered earlier may.1 spared.1), all_between)
all_ordered (End n res bytes ∷ earlier) may spared = grind (arith, end_ordered, all_between, (all_ordered earlier may.1 spared.1))
