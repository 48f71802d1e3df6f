-- Why an outstanding request stands as it does, from what is held.
use Rattle.std.proofs.Common.{◌≡◌, ◌≢◌, ℕ, ◌<◌, ◌≤◌, Bool, true, false, Some, None, is_some, sym, ◌∙◌, ap, arith}
use Rattle.uring_dispatch.proofs.Common.{AreHeld, Group, Groups, IsFirst, IsFirstDraining, IsGroup, IsSound, Request, Requests, Window, at, cases_lt, drain_of, draining_is, entry_of, fault_of, first_member_inside, group_at, holds_back, if◌then◌else◌, is_before, is_draining, is_joined, joined_member, least_below_none, least_below_some, or_right}
use Rattle.uring_entry.specs.Why.{first_doom, faulty_member_of, failed_member_of, doom_of, since_of, holder_of, waiting_for}
use Rattle.uring_entry.specs.declared.fault.Fault.{Fault}
use Rattle.uring_entry.specs.declared.why.Doom.TheVariants.{OwnFault, FaultOf, FailureOf, Cancel}
use Rattle.uring_entry.specs.declared.why.Since.{Since}
use Rattle.uring_entry.specs.declared.why.Since.TheVariants.{SameGroup, ItDrains, OwnDrains}
use Rattle.uring_entry.specs.declared.why.Why.TheVariants.{Waits, MayStart}
use Rattle.uring_entry.proofs.WhyLemmas.{StillWaits, faulty_member_is, failed_member_before, failed_member_none}
use Rattle.uring_dispatch.specs.Waits.{IsFirstHolder}
use Rattle.uring_dispatch.proofs.HeldLemmas.{InGroup, its_group, shown_within, draining_held, least_open, plain_before, within_group}

-- What a request waits for.

module _ {w : Window} {g : Groups} {r : Requests} {n m : ℕ} {request other : Request} (s : IsSound w g) (h : AreHeld w g r)
    (e : at w n ≡ Some request) (f : at w m ≡ Some other) (low : m < n) where
  -- an earlier outstanding request is a member of the group if it has its key
  pub joined_held : other.group ≡ request.group → is_joined r m n ≡ true
  joined_held same =
      let its = its_group s h e in
      grind (arith, (joined_member r its.0.from its.0.end m n its.1.shown.group), (within_group s f))

  pub joined_apart : other.group ≢ request.group → is_joined r m n ≡ false
  joined_apart ne =
      let its = its_group s h e in
      grind (arith, (joined_member r its.0.from its.0.end m n its.1.shown.group), (s.members request.group its.0 m other its.1.found))

module _ {w : Window} {g : Groups} {r : Requests} {n : ℕ} {request : Request} (s : IsSound w g) (h : AreHeld w g r) (e : at w n ≡ Some request) where
  -- a kept request that doesn't run
  pub still_held : request.is_running ≡ false → StillWaits r n
  still_held still = grind (arith, shown_within)

  -- one that has ended keeps nobody
  gone_free : {k : ℕ} → k < n → at w k ≡ None → holds_back r n k ≡ false
  gone_free {k} low gone = grind (arith, shown_within)

-- whether a kept request's group drains
pub draining_kept : {w : Window} {g : Groups} {r : Requests} (n : ℕ) {request : Request} → IsSound w g
    → AreHeld w g r → at w n ≡ Some request
    → is_draining r n ≡ is_some (drain_of (group_at g request.group))
draining_kept n s h e = grind (arith, its_group, draining_held)

-- What dooms it.

pub doom_own : (r : Requests) (n : ℕ) (fault : Fault) → fault_of (entry_of r n) ≡ Some fault
    → doom_of r n ≡ OwnFault fault
doom_own r n fault e = ap (λ o. first_doom o (faulty_member_of r n) (failed_member_of r n)) e

module _ {w : Window} {g : Groups} {r : Requests} {n : ℕ} {request : Request} {q : Group} (i : InGroup w g r n request q)
    (right : fault_of request.entry ≡ None) where
  pub doom_member : {m : ℕ} → q.fault ≡ Some m → doom_of r n ≡ FaultOf m
  doom_member {m} found = grind (arith, (faulty_member_is r q.from q.end n), (i.held.shown n request i.there))

  pub doom_failed : {m : ℕ} → q.fault ≡ None → q.broken ≡ Some m → m < n → doom_of r n ≡ FailureOf m
  doom_failed {m} none found low =
      grind (arith, (faulty_member_is r q.from q.end n), (failed_member_before r q.from q.end n m), (i.held.shown n request i.there))

  pub doom_else : q.fault ≡ None → is_before q.broken n ≡ false → doom_of r n ≡ Cancel
  doom_else none past =
      grind (arith, (faulty_member_is r q.from q.end n), (failed_member_none r q.from q.end n), (i.held.shown n request i.there))

-- The least request that it waits for.

module _ {w : Window} {g : Groups} {r : Requests} {n : ℕ} {request : Request} {q : Group} (i : InGroup w g r n request q) where
  -- its own group drains, and this is the least outstanding request
  pub first_of_all : {m : ℕ} → is_some q.drain ≡ true → IsFirst w m → IsFirstHolder r n m
  first_of_all {m} drains first = grind (arith, or_right, draining_held)

  -- one of an earlier group keeps nobody whose group doesn't drain, if no group drains from a number before a later group on
  early_free : is_some q.drain ≡ false → (from end : ℕ) → IsGroup r from end → from ≤ q.from
      → ((key number : ℕ) → drain_of (group_at g key) ≡ Some number → from ≤ number)
      → (k : ℕ) → k < from → holds_back r n k ≡ false
  early_free plain from end group le free k low =
      grind (arith, (gone_free i.sound i.held i.there), (joined_member r q.from q.end k n i.shown.group i.from i.to), (draining_held i), i.from, (λ (other : Request) (e : at w k ≡ Some other). plain_before i.sound i.held group free e low))

  -- an earlier group is the first that drains
  pub first_draining_is : {b : Group} → is_some q.drain ≡ false → IsFirstDraining g b → b.from < q.from
      → IsFirstHolder r n b.least
  first_draining_is {b} plain f low =
      let kept = i.sound.kept f.key b f.here in
      let shown = i.held.groups f.key b f.here in
      let member = first_member_inside _ b.from b.end f.number (sym shown.drain ∙ f.drains) in
      let early = early_free plain b.from b.end shown.group (omega arith)
      (λ key number d. let le = f.first key number d in omega (arith, member.0))
      in
      record {
        before = λ k lt earlier. grind (arith, (early k), (gone_free i.sound i.held i.there {k = k}), kept, (cases_lt k b.from));
        here = λ lt. grind (arith, (least_open i.sound i.held f.key f.here), (draining_is r b.from b.end b.least shown.group), f.drains);
      }

  -- none is, and so it waits for its own group alone
  pub first_own : is_some q.drain ≡ false
      → ((key number : ℕ) → drain_of (group_at g key) ≡ Some number → q.from ≤ number)
      → IsFirstHolder r n q.least
  first_own plain free =
      let going = least_open i.sound i.held request.group i.found in
      grind (arith, (early_free plain q.from q.end), (gone_free i.sound i.held i.there), (joined_member r q.from q.end q.least n i.shown.group i.from i.to))

pub waits_for : (r : Requests) (n m : ℕ) (since : Since) → m < n → IsFirstHolder r n m
    → since ≡ since_of r n m → Waits m since ≡ waiting_for r n (holder_of r n)
waits_for r n m since low f e = grind (arith, (least_below_some (holds_back r n) n m low (f.here low)))

pub waits_for_none : (r : Requests) (n m : ℕ) → n ≤ m → IsFirstHolder r n m
    → MayStart ≡ waiting_for r n (holder_of r n)
waits_for_none r n m le f = grind (arith, least_below_none)

-- why it waits for one: the first of the three tests
pub since_is : (r : Requests) (n m : ℕ) (joined drains : Bool) → is_joined r m n ≡ joined
    → is_draining r m ≡ drains
    → (if joined then SameGroup else if drains then ItDrains else OwnDrains) ≡ since_of r n m
since_is r n m joined drains a b = rw (a, b)
