-- How a request stands, from what is kept of it, and what its issue is answered.
use Rattle.std.proofs.Common.{◌≡◌, ℕ, ◌<◌, ℤ, length, Bool, true, false, not, ◌&&◌, Option, Some, None, is_some, sym, ◌∙◌, ap, subst, arith, inl, inr, List, set, ◌-◌, ◌≤◌, ◌⊎◌}
use Rattle.uring_linux.proofs.Common.{Drains, KeptDrains, LinuxDispatch, LinuxRequests, Request, Requests, Shows, ShowsRequests, Tells, Window, after_going_on, and_from, and_parts, and_right, at, both_ways, cancel_result, cases_Bool, comes_past, dispatch_of, doomed_result, end_of, ended_with, entry_of, fault_of, first_member, found_by, has_ended, has_fault, if◌then◌else◌, is_cancel_all, is_deferred, is_doomed, is_faulty, is_in_faulty_group, is_in_group, is_in_own_group, is_in_turn, is_issuable, is_let_in, is_outstanding, is_running, issued, issued_ready, least_below_same, least_of, lt-leb, neg_ℤ, not-true, one_if, or_left, or_parts, some_below_some}
use Rattle.uring_linux.specs.LinuxRequests.{with_started, with_ended}
use Rattle.uring_entry.specs.declared.fault.Fault.{Fault}
use Rattle.uring_entry.specs.Success as success
use Rattle.uring_entry.specs.Requests as manual
use Rattle.uring_entry.specs.declared.errno.TheConstants.{ENOENT, EALREADY}
use Rattle.uring_dispatch.specs.declared.answers.Posts.{Posts}
use Rattle.uring_dispatch.specs.declared.answers.IssuedPosting.{IssuedPosting}
use Rattle.uring_dispatch.specs.declared.answers.IssuedPosting.TheVariants.{Ended, NotReady, Running, Unknown}
use Rattle.uring_linux.proofs.WindowLemmas.{not_none}
use Rattle.uring_linux.proofs.WindowCounts.{dispatch_shows}
use Rattle.uring_linux.proofs.WindowEvents.{at_within, roomed}
use Rattle.uring_linux.proofs.GroupsShown.{started_shows}

-- what is kept shows the requests that the dispatcher does
pub shown : (s : Window) (d : KeptDrains) (b : Bool) (room : ℕ) (between : Bool) (l : LinuxRequests)
    → ShowsRequests (dispatch_of s d b room between) l → Shows s l.requests
shown s d b room between l h = roomed s.first s.items 0 s.room l.requests h.held.window

-- and by any name of the dispatcher
pub shown_as : (s : Window) (d : KeptDrains) (b : Bool) (room : ℕ) (between : Bool) (x : LinuxDispatch) (l : LinuxRequests)
    → dispatch_of s d b room between ≡ x → ShowsRequests x l → Shows s l.requests
shown_as s d b room between x l e g =
    shown s d b room between l (subst (λ (y : LinuxDispatch). ShowsRequests y l) (sym e) g)

-- what isn't kept has ended, or wasn't given
pub outside : (s : Window) (r : Requests) (n : ℕ) → Shows s r → None ≡ at s n
    → (has_ended r n ≡ true) ⊎ (length r.accepted ≤ n)
outside s r n h none = grind (arith, not_none)

pub outside_ended : (s : Window) (r : Requests) (n : ℕ) → Shows s r → None ≡ at s n
    → is_outstanding r n ≡ false
outside_ended s r n h none = grind (arith, outside, and_right)

pub outside_idle : (s : Window) (r : Requests) (n : ℕ) → Shows s r → None ≡ at s n
    → is_running r n ≡ false
outside_idle s r n h none = grind (arith, outside, and_right)

pub outstanding_ended : (q : Request) (r : Requests) (n : ℕ) → Tells q r n → q.has_ended ≡ true
    → is_outstanding r n ≡ false
outstanding_ended q r n t e = and_right _ _ (ap not (sym t.ended ∙ e))

pub outstanding_going : (s : Window) (q : Request) (r : Requests) (n : ℕ) → Shows s r → at s n ≡ Some q
    → q.has_ended ≡ false → is_outstanding r n ≡ true
outstanding_going s q r n h here e = grind (arith, at_within, and_from)

pub running_outstanding : (s : Window) (r : Requests) (n : ℕ) → Shows s r → is_running r n ≡ true
    → is_outstanding r n ≡ true
running_outstanding s r n h e = grind arith

-- what has no fault is let in
pub fine_let_in : (r : Requests) (n : ℕ) → has_fault r n ≡ false → is_let_in r n ≡ true
fine_let_in r n e =
    let parts = or_parts _ _ e in
    and_from _ _ (past (fault_of (entry_of r n)) parts.0) (ap not parts.1)
  where
    past : (fault : Option Fault) → is_some fault ≡ false → comes_past fault ≡ true
    past fault none = grind arith

-- who is not in a group with a fault has none
pub healthy : (r : Requests) (n : ℕ) → n < length r.accepted → is_doomed r n ≡ false
    → is_faulty (entry_of r n) ≡ false
unfolding is_in_faulty_group
healthy r n lt e =
    let some = some_below_some (λ m. is_in_group r m n && has_fault r m) (length r.accepted) n lt in
    let none = (or_parts _ _ e).0 in
    elim (cases_Bool (is_faulty (entry_of r n))) [
      | inl faulty ↦ absurd (both_ways _ none (some (and_from _ _ (is_in_own_group r n) (or_left _ _ faulty))))
      | inr fine ↦ fine
    ]

-- Answers.

abbrev ask : (o run turn doomed deferred : Bool) (x y : IssuedPosting) → IssuedPosting
ask o run turn doomed deferred x y =
    if not o then Unknown else if run then Running else if not turn then NotReady else if doomed then x else if deferred then NotReady else y

pub asked : (l : LinuxRequests) (n : ℕ) (o run turn doomed deferred : Bool)
    → is_outstanding l.requests n ≡ o → is_running l.requests n ≡ run → is_in_turn l.requests n ≡ turn
    → is_doomed l.requests n ≡ doomed → is_deferred l n ≡ deferred
    → issued l n ≡ ask o run turn doomed deferred (ended_with l.requests n (doomed_result l.requests n)) (issued_ready l.requests n)
asked l n o run turn doomed deferred a b c d e = rw (a, b, c, d, e)

pub ended_outstanding : (l : LinuxRequests) (n : ℕ) (res : ℤ) (p : Posts) → issued l n ≡ Ended res p
    → is_outstanding l.requests n ≡ true
ended_outstanding l n res p e = grind arith

-- Cancels.

pub cancelled_one : (r : Requests) (n : ℕ) (b : Bool) → is_cancel_all (entry_of r n) ≡ false
    → is_some (found_by r n) ≡ b
    → cancel_result r n ≡ (if b then neg_ℤ EALREADY else neg_ℤ ENOENT)
cancelled_one r n b one found = rw (one, found)

-- Events.

pub dispatch_started : (s t : Window) (d : KeptDrains) (b : Bool) (room left : ℕ) (between amid : Bool) (l : LinuxRequests) (n : ℕ) (q : Request)
    → ShowsRequests (dispatch_of s d b room between) l → at s n ≡ Some q
    → is_outstanding l.requests n ≡ true
    → t ≡ record s { items = set s.items (n - s.first) (record q { is_running = true }) }
    → ShowsRequests (dispatch_of t d b left amid) (with_started l n)
dispatch_started s t d b room left between amid l n q h here going et =
    let shows = started_shows s q l.requests n (shown s d b room between l h) here (grind arith) in
    dispatch_shows t d b left amid (with_started l n) (rw et shows) h.held.drains h.held.skipped

pub dispatch_ended : (s t : Window) (d k : KeptDrains) (b : Bool) (room left : ℕ) (between amid : Bool) (l : LinuxRequests) (n : ℕ) (q : Request) (res : ℤ) (bytes : List ℕ) (failed : Bool)
    → ShowsRequests (dispatch_of s d b room between) l → at s n ≡ Some q
    → is_outstanding l.requests n ≡ true → failed ≡ not (success.is_success q.entry res)
    → ((r : Requests) (x : ℤ) (bs : List ℕ) → Shows s r → has_ended r n ≡ false
    → failed ≡ not (success.is_success q.entry x) → Shows t (manual.with_ended r n x bs))
    → ((r : Requests) → Shows t r → k.drains ≡ record d.drains { deferred = after_going_on r d.drains.deferred })
    → ShowsRequests (dispatch_of t k b left amid) (with_ended l n res bytes)
dispatch_ended s t d k b room left between amid l n q res bytes failed h here going ef g f =
    let r = manual.with_ended l.requests n res bytes in
    let shows = g l.requests res bytes (shown s d b room between l h) (not-true _ (and_parts _ _ going).1) ef in
    dispatch_shows t k b left amid (with_ended l n res bytes) shows
    (f r shows ∙ ap (λ (x : Drains). record x { deferred = after_going_on r x.deferred }) h.held.drains) h.held.skipped

-- What can be issued.

pub some_running : (b : Bool) (p q : Posts) → Some q ≡ (if b then Some p else None) → b ≡ true
some_running b p q e = grind arith

pub least_is : (s : Window) (r : Requests) → Shows s r
    → first_member (λ m. not (has_ended r m)) s.first (end_of s) ≡ least_of r
unfolding first_member
least_is s r h = grind (arith, least_below_same, lt-leb)

-- who is not kept any more can't be issued
pub gone_issuable : (s : Window) (d : KeptDrains) (b : Bool) (room : ℕ) (between : Bool) (x : LinuxDispatch) (l : LinuxRequests) (n : ℕ)
    → dispatch_of s d b room between ≡ x → ShowsRequests x l → n < s.first → is_issuable l n ≡ false
gone_issuable s d b room between x l n e g lt = grind arith

pub busy_issuable : (a b c : Bool) → (a && b) ≡ false → false ≡ (a && (b && c))
busy_issuable a b c e = grind arith

-- Counts.

pub one_more : (b : Bool) (k : ℕ) → k ≡ one_if b → 0 < k → b ≡ true
one_more b k e lt = grind arith
