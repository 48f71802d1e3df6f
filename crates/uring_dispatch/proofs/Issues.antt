-- What the issue of a request is answered, by what the code found.
use Rattle.std.proofs.Common.{Option, arith, ◌≡◌, ℕ, ℤ, negsuc, Bool, true, false, Some, None, refl, sym, ◌∙◌, ap, inl, inr}
use Rattle.uring_dispatch.proofs.Common.{AreHeld, Cancel, Ended, Groups, HasLost, IsSound, NotReady, Op, Request, Requests, Run, Sqe, Window, addr_of, at, cancel_result, cases_Bool, dispatch_of, entry_of, if◌then◌else◌, is_cancel, is_cancel_all, is_doomed, is_doomed_own_fault, is_faulty, is_outstanding, is_ready, is_running, one_if, op_of, operation_of, runs}
use Rattle.uring_entry.proofs.Preparations.{asks_cancel, cancel_asked}
use Rattle.uring_dispatch.specs.Dispatch.{HasEnded}
use Rattle.uring_dispatch.specs.IssueAndFinish.{issued_waiting, issued_posting, with_posts, without_posts, posts_of, posted_by}
use Rattle.uring_dispatch.specs.declared.answers.Issued.{Issued}
use Rattle.uring_dispatch.specs.declared.answers.IssuedPosting.TheVariants as posting
use Rattle.uring_dispatch.proofs.HeldLemmas.{shown_within, outstanding_some, running_some}

faulty_or : {X : Type 0} (b : Bool) (x : X) (o : Option X) → o ≡ (if b then None else Some x)
    → (o ≡ None → b ≡ true) × ((y : X) → o ≡ Some y → (b ≡ false) × (y ≡ x))
faulty_or b x o is = grind arith

-- what a kept operation says of its entry
pub op_none : (e : Sqe) → None ≡ op_of e → is_faulty e ≡ true
op_none e is = (faulty_or (is_faulty e) (operation_of e) None is).0 refl

pub op_some : (e : Sqe) (op : Op) → Some op ≡ op_of e
    → (is_faulty e ≡ false) × (op ≡ operation_of e)
op_some e op is = (faulty_or (is_faulty e) (operation_of e) (Some op) is).1 op refl

-- what a kept cancel names
pub cancel_kept : (e : Sqe) (target : ℕ) (all : Bool) → Some (Cancel target all) ≡ op_of e
    → (target ≡ addr_of e) × (is_cancel e ≡ true) × (all ≡ is_cancel_all e)
cancel_kept e target all is =
    let does = op_some e (Cancel target all) is in
    let asks = cancel_asked e target all (sym does.1) in
    (grind (arith, (asks_cancel e asks.0), does), asks.0, asks.1)

-- What is answered, with what an end posts.

pub posts_apart : (r : Requests) (n : ℕ) (answer : Issued) → without_posts (with_posts r n answer) ≡ answer
posts_apart r n answer = grind arith

pub issued_gone : (r : Requests) (n : ℕ) → is_outstanding r n ≡ false
    → posting.Unknown ≡ issued_posting r n
issued_gone r n a = rw a

pub issued_runs : (r : Requests) (n : ℕ) → is_outstanding r n ≡ true → is_running r n ≡ true
    → posting.Running ≡ issued_posting r n
issued_runs r n a b = rw (a, b)

-- the numbers after the end of a request that did not run
pub ended_idle : {w v : Window} {q : Request} (g h : Groups) (n room : ℕ) (between : Bool) → at w n ≡ Some q → q.is_running ≡ false
    → HasLost w v (one_if (runs (at w n))) → HasEnded (dispatch_of w g room between) (dispatch_of v h room between)
ended_idle g h n room between there waits lost = grind arith

-- of a request that is held and was not started
module _ {w : Window} {g : Groups} {r : Requests} (n : ℕ) {q : Request} (s : IsSound w g) (h : AreHeld w g r) (there : at w n ≡ Some q) (waits : q.is_running ≡ false) where
  issued_held : (answer : Issued) → answer ≡ issued_waiting r n → with_posts r n answer ≡ issued_posting r n
  issued_held answer is = rw (is, (outstanding_some s h n there), (running_some h n there ∙ waits))

  pub issued_faulty : q.op ≡ None → with_posts r n (Ended (negsuc 21)) ≡ issued_posting r n
  issued_faulty is =
      let faulty = op_none (entry_of r n) (sym is ∙ (h.shown n q there).op) in
      issued_held (Ended (negsuc 21)) (rw (is_doomed_own_fault r n (shown_within s h there) faulty, faulty))

  pub issued_doomed : {op : Op} → q.op ≡ Some op → true ≡ is_doomed r n
      → with_posts r n (Ended (negsuc 124)) ≡ issued_posting r n
  issued_doomed {op} is doomed =
      issued_held (Ended (negsuc 124)) (rw (← doomed, (op_some (entry_of r n) op (sym is ∙ (h.shown n q there).op)).0))

  pub issued_late : false ≡ is_doomed r n → false ≡ is_ready r n → posting.NotReady ≡ issued_posting r n
  issued_late spared late = issued_held NotReady (rw (← spared, ← late))

  pub issued_cancel : false ≡ is_doomed r n → true ≡ is_ready r n → is_cancel (entry_of r n) ≡ true
      → with_posts r n (Ended (cancel_result r n)) ≡ issued_posting r n
  issued_cancel spared ready cancel = issued_held (Ended (cancel_result r n)) (rw (← spared, ← ready, cancel))

  pub issued_run : {op : Op} → q.op ≡ Some op → false ≡ is_doomed r n → true ≡ is_ready r n
      → ((t : ℕ) (all : Bool) → op ≡ Cancel t all → ⊥) → posting.Run op ≡ issued_posting r n
  issued_run {op} is spared ready other =
      let does = op_some (entry_of r n) op (sym is ∙ (h.shown n q there).op) in
      elim (cases_Bool (is_cancel (entry_of r n))) [
        | inl cancel ↦ absurd (other (addr_of (entry_of r n)) (is_cancel_all (entry_of r n)) (does.1 ∙ asks_cancel (entry_of r n) cancel))
        | inr other_code ↦ issued_held (Run op) (ap Run does.1 ∙ rw (← spared, ← ready, other_code) refl)
      ]

-- What an end posts.

pub posted_none : (r : Requests) (n : ℕ) (res : ℤ) → is_running r n ≡ false
    → None ≡ posted_by r n res
posted_none r n res e = rw e

pub posted_some : (r : Requests) (n : ℕ) (res : ℤ) → is_running r n ≡ true
    → Some (posts_of (entry_of r n) res) ≡ posted_by r n res
posted_some r n res e = rw e
