-- How the Issue of the next request is answered, and the loop of issues: lanes are looked at, and then a request is issued.
use Rattle.std.proofs.Common.{◌≡◌, ℕ, true, List, Option, Some, None, length, ℤ, refl, sym, ap, ◌∙◌, ◌+◌, ◌<◌, ◌≤◌, get_or, arith}
use Rattle.uring_threads.proofs.Common.{Answer, AreSameLanes, CalledForApart, Grows, HaveCarried, IsLookedAt, IsUnmoved, Kept, Op, Repeats, WorkLanes, World, cond_some, entry_of, is_issuable, is_running, is_running_started_same, issues_request, length-append, length-map, next_in, none_counted, now, operation_of, operation_running, requests_of, step_of}
use Rattle.uring_core.proofs.SoundRequests.{outstanding_tells}
use Rattle.uring_entry.proofs.BelowLemmas.{least_below_tells}
use Rattle.uring_core.proofs.Issuable.{issue_goes, issued_ends, issuable_outstanding}
use Rattle.uring_core.specs.declared.step.Step.TheVariants as step
use Rattle.uring_core.specs.declared.answer.Answer.TheVariants as answer
use Rattle.uring_threads.proofs.TraceSteps.{grown}
use Rattle.uring_threads.proofs.Tallying.{adds_none}
use Rattle.uring_workers.proofs.LaneFacts.{looked_results}
use Rattle.uring_threads.proofs.Carrying.{IssuedAs, quiet_stays, carried_stays}
use Rattle.uring_threads.proofs.SameLanes.{lanes_then}
use Rattle.uring_threads.proofs.Posting.{posts_only}
use Rattle.uring_threads.proofs.Repeating.{repeats_one}

-- its Issue is answered in one of two ways
pub issue_cases : (a : Kept) (n : ℕ) (x : Answer) → next_in a ≡ Some n
    → CalledForApart a.setup (now a) (step.Issue n) x → (x ≡ answer.Run → ⊥)
    → ((res : ℤ) (bytes : List ℕ) → x ≡ answer.Ended res bytes → ⊥) → ⊥
issue_cases a n x next called not_run not_ended =
    let issuable : is_issuable a.setup.linux (requests_of (now a)) n ≡ true = grind (arith, least_below_tells) in
    let ended = issued_ends x (rw called (issue_goes a.setup (now a) n issuable)) not_run in
    grind (arith, ended, not_ended)

-- what it starts runs
pub started_runs : (a b : Kept) (n : ℕ) → next_in a ≡ Some n
    → Grows a b (step.Issue n, answer.Run) → operation_running (now b).requests n ≡ None → ⊥
started_runs a b n next grows none =
    let issuable : is_issuable a.setup.linux (requests_of (now a)) n ≡ true = grind (arith, least_below_tells) in
    let waits = issuable_outstanding a.setup.linux (requests_of (now a)) n issuable in
    grind (arith, none, (grown a b (step.Issue n) answer.Run grows), (outstanding_tells (now a).requests n waits), is_running_started_same)

-- and it is the operation of its entry
pub started_op : (a b : Kept) (n : ℕ) (op : Op) → Grows a b (step.Issue n, answer.Run)
    → Some op ≡ operation_running (now b).requests n → op ≡ operation_of (entry_of (now a).requests n)
started_op a b n op grows some =
    sym (cond_some (is_running (now b).requests n) (operation_of (entry_of (now b).requests n)) op (sym some)).1 ∙ ap (λ (w : World). operation_of (entry_of w.requests n)) (grown a b (step.Issue n) answer.Run grows)

-- and that is one issue
pub issued_repeats : (a b : Kept) (n : ℕ) (told : Option Op) → IssuedAs a b n told
    → Repeats a b step.Issue 1
issued_repeats a b n (Some op) issued =
    repeats_one step.Issue n answer.Run issued.0 refl (posts_only a.setup (now a) n answer.Run).0
issued_repeats a b n None issued =
    let served : issues_request (step.Issue n, issued.0) ≡ true = grind arith in
    repeats_one step.Issue n issued.0 issued.1 (rw served) (posts_only a.setup (now a) n issued.0).0

-- Room was asked for, and the lanes were looked at.
pub looked_on : (k r : Kept) (first old new : List WorkLanes) → IsUnmoved k r
    → length new ≡ length old
    → ((j : ℕ) (d : WorkLanes) → j < length old → IsLookedAt (get_or old j d) (get_or new j d))
    → HaveCarried k old → AreSameLanes first old → HaveCarried r new × AreSameLanes first new
looked_on k r first old new u many looked carried same = (
  λ j d low.
      let before : j < length old = omega (arith, low, many) in
      let had = carried_stays k r old (quiet_stays k r none_counted (adds_none k r u) refl refl) carried j d before in
      grind (arith, had, (looked j d before), many),
  grind (arith, (lanes_then first old new same), (λ (j : ℕ) (d : WorkLanes) (low : j < length old). looked_results _ _ (looked j d low))),
)

-- one request more was issued
pub issued_length : {r b : Kept} → Repeats r b step.Issue 1
    → length r.trace + 1 ≤ length b.trace
issued_length {r} p = omega (arith, ap length p.row.trace, length-append r.trace p.row.events, length-map p.row.events step_of, ap length p.row.row, length-map p.numbers step.Issue, p.many)
