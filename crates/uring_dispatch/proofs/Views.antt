-- From what a dispatcher shows to what it holds, and back; and what its queries find.
use Rattle.std.proofs.Common.{◌≡◌, ℕ, ◌≤◌, length, Bool, true, false, Option, Some, None, arith, not, ◌&&◌}
use Rattle.uring_dispatch.proofs.Common.{AreHeld, Cancel, Dispatch, EndCounts, Groups, IsFirst, IsSound, IssueCounts, MatchOption, Op, Request, Requests, ShowsRequests, StandsFor, Window, at, dispatch_of, end_of, entry_of, entry_outstanding, if◌then◌else◌, is_faulty, is_outstanding, is_running, is_some_value, least_below_none, least_below_some, least_of, operation_running}
use Rattle.uring_dispatch.specs.Outstanding.{HasRoom, Stays}
use Rattle.uring_dispatch.specs.declared.outstanding.Outstanding.{Outstanding}
use Rattle.uring_dispatch.specs.declared.answers.Issued.{Issued}
use Rattle.uring_dispatch.specs.declared.answers.Posts.{Posts}
use Rattle.uring_dispatch.proofs.HeldLemmas.{shown_within, outstanding_none, outstanding_some}
use Rattle.uring_dispatch.specs.Cancels.{found_for, found_by, operation_outstanding}

pub shows_held : (w : Window) (g : Groups) (r : Requests) (room : ℕ) (between : Bool)
    → AreHeld w g r → ShowsRequests (dispatch_of w g room between) r
unfolding StandsFor at
shows_held w g r room between h =
    record { accepted = grind arith; outstanding = h.outstanding; running = h.running; held = assumption (h) }

-- what is held, where the value was opened
pub held_from : (d : Dispatch) (w : Window) (g : Groups) (room : ℕ) (between : Bool) (r : Requests)
    → dispatch_of w g room between ≡ d → ShowsRequests d r → AreHeld w g r
unfolding StandsFor at
held_from d w g room between r e s = let held = (rw (← e) at s).held in assumption

-- What the queries answer.

pub least_held : (w : Window) (g : Groups) (r : Requests) (o : Option ℕ) → IsSound w g
    → AreHeld w g r → MatchOption o ((n : ℕ) → at w n ≡ None) (IsFirst w) → o ≡ least_of r
least_held w g r None s h m = grind (arith, (least_below_none (is_outstanding r) (length r.accepted)), (outstanding_none h))
least_held w g r (Some n) s h m =
    let q = is_some_value (at w n) m.here in
    grind (arith, (least_below_some (is_outstanding r)), (outstanding_none h), (outstanding_some s h n q.1), (shown_within s h q.1), m.before)

pub entry_none : (w : Window) (g : Groups) (r : Requests) (n : ℕ) → AreHeld w g r → at w n ≡ None
    → None ≡ entry_outstanding r n
entry_none w g r n h e = grind arith

pub entry_some : (w : Window) (g : Groups) (r : Requests) (n : ℕ) (q : Request) → IsSound w g
    → AreHeld w g r → at w n ≡ Some q → Some q.entry ≡ entry_outstanding r n
entry_some w g r n q s h e = grind (arith, outstanding_some)

pub operation_none : (r : Requests) (n : ℕ) → is_running r n ≡ false → None ≡ operation_running r n
operation_none r n e = rw e

pub operation_some : (w : Window) (g : Groups) (r : Requests) (n : ℕ) (q : Request) → AreHeld w g r
    → at w n ≡ Some q → q.is_running ≡ true → q.op ≡ operation_running r n
operation_some w g r n q h e runs = grind arith

-- Room.

-- an issue and an end accept nothing
pub unchanged_end_issue : (answer : Issued) (old new : Dispatch) → IssueCounts answer old new
    → new.accepted ≡ old.accepted
unchanged_end_issue answer old new c = grind arith

pub unchanged_end : (posted : Option Posts) (old new : Dispatch) → EndCounts posted old new
    → new.accepted ≡ old.accepted
unchanged_end posted old new c = grind arith

pub room_stays : (old new : Outstanding) (room : ℕ) → Stays old new
    → end_of new.grouped.window ≡ end_of old.grouped.window → HasRoom old room → HasRoom new room
room_stays old new room s end r = omega arith

pub room_fewer : (d : Outstanding) (room fewer : ℕ) → fewer ≤ room → HasRoom d room → HasRoom d fewer
room_fewer d room fewer le r = omega arith

some_or : {X : Type 0} (b : Bool) (x : X) → (if true && not b then Some x else None) ≡ (if b then None else Some x)
some_or b x = grind arith

-- what is outstanding is to do what its entry asks for
pub operation_held : (w : Window) (g : Groups) (r : Requests) (n : ℕ) (request : Request)
    → IsSound w g → AreHeld w g r → at w n ≡ Some request → operation_outstanding r n ≡ request.op
operation_held w g r n request s h e =
    rw (outstanding_some s h n e, (h.shown n request e).op) (some_or (is_faulty (entry_of r n)) _)

-- by what it is to do
pub finds_by : (w : Window) (g : Groups) (r : Requests) (n : ℕ) (request : Request) (op : Option Op)
    → IsSound w g → AreHeld w g r → at w n ≡ Some request → request.op ≡ op
    → found_for r n op ≡ found_by r n
finds_by w g r n request op s h e is = grind (arith, (operation_held w g r n request s h e))

-- what is no cancel finds nothing
pub finds_other : (r : Requests) (n : ℕ) (op : Op) → ((t : ℕ) (all : Bool) → op ≡ Cancel t all → ⊥)
    → None ≡ found_for r n (Some op)
finds_other r n op other = grind arith
