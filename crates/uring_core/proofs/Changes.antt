-- The events that change something, each with what is known of it because its answer was called for.
-- `change_of` makes one of each event that was called for: a proof by cases over events has eighteen cases by it, and `refuses` is the one of all that change nothing.
-- From the definitions of the answers alone.
-- Stable: other crates may import `Change` with its cases and `change_of`.
use Rattle.std.proofs.Common.{◌≡◌, ℕ, ◌+◌, ℤ, Bool, true, false, not, nat_lt, eqb, List, length, Option, Some, None, is_some, if◌then◌else◌, slice_get, refl, sym, subst, inl, inr, rules}
use Rattle.uring_core.proofs.Common.{Answer, Call, CalledForApart, Cqe, Event, FinishesApart, OrAgain, Place, Setup, Sqe, Step, World, accepted_by, call_length, closes_call, closes_ring, cond_both, end_answer_in, end_told_by, ends_doomed, entries_of, entry_answer, entry_of, entry_taken_by, filled_by, happens, is_busy, is_cancel, is_flush, is_full, is_load_cq_tail, is_load_head, is_outstanding, is_running, is_spent, is_store_cq_head, is_store_tail, may_start, next_answer_of, next_to_reap, no_bytes, opened_by, opens_call, place_answer, places_from, reap_answer_of, reaped_by, requests_of, staged_by, started_by, take_answer_in, taken, takes_in, takes_position}
use Rattle.uring_rules.specs.Rules.{doomed_result, cancel_result}
use Rattle.uring_core.specs.declared.step.Step.TheVariants as step
use Rattle.uring_core.specs.declared.answer.Answer.TheVariants as answer

-- an event that tells nothing
pub record IsSilent (e : Event) : Type 0 where
  pub starts : started_by e ≡ None
  pub ends : end_told_by e ≡ None
  pub reaps : reaped_by e ≡ None
  pub stages : staged_by e ≡ None
  pub fills : (slot : ℕ) → filled_by slot e ≡ None
  pub takes_entry : entry_taken_by e ≡ None
  pub takes : takes_position e ≡ false
  pub opens : opened_by e ≡ None
  pub closes : closes_call e ≡ false
  pub takes_into : takes_in e ≡ false
  pub stores_tail : is_store_tail e ≡ false
  pub loads_head : is_load_head e ≡ false
  pub flushes : is_flush e ≡ false
  pub loads_cq_tail : is_load_cq_tail e ≡ false
  pub stores_cq_head : is_store_cq_head e ≡ false
  pub opens_none : opens_call e ≡ false
  pub accepts : accepted_by e ≡ None
  pub shuts_none : closes_ring e ≡ false

-- An event whose answer was called for, by what it changes.
pub data Change (g : Setup) (w : World) : Step → Answer → Type 0 where
  refuses : (s : Step) (a : Answer) → ((v : World) → happens g v s a ≡ v) → IsSilent (s, a) → Change g w s a
  fills : (slot : ℕ) (entry : Sqe) → is_busy w.submission slot ≡ false → Change g w (step.Fill slot entry) answer.Filled
  stages : (word : ℕ) → is_full g.sq w.submission ≡ false → Change g w (step.Index word) answer.Staged
  stores : (tail : ℕ) → Change g w step.StoreTail (answer.Tail tail)
  loads : (head : ℕ) → Change g w step.LoadHead (answer.Head head)
  begins : (count : ℕ) → w.is_closed ≡ false → w.submission.call ≡ None → is_spent w (call_length w.submission count) ≡ false → Change g w (step.Begin count) (answer.Call (call_length w.submission count))
  takes : (entry : Sqe) (call : Call) (place : Place) → w.submission.call ≡ Some call → eqb call.taken call.count ≡ false → slice_get w.submission.published (taken w.submission + call.taken) ≡ Some place → place.entry ≡ Some entry → Change g w step.Take (answer.Entry entry)
  drops : (call : Call) (place : Place) → w.submission.call ≡ Some call → eqb call.taken call.count ≡ false → slice_get w.submission.published (taken w.submission + call.taken) ≡ Some place → place.entry ≡ None → Change g w step.Take answer.Dropped
  closes : (accepted missed head : ℕ) (call : Call) → w.submission.call ≡ Some call → nat_lt call.taken call.count ≡ false → accepted ≡ length (entries_of (places_from w.submission call.count)) → Change g w step.End (answer.Taken accepted missed head)
  runs : (n : ℕ) → is_outstanding w.requests n ≡ true → is_running w.requests n ≡ false → ends_doomed g.linux w.requests n ≡ false → may_start g.linux (requests_of w) n ≡ true → is_cancel (entry_of w.requests n) ≡ false → Change g w (step.Issue n) answer.Run
  dooms : (n : ℕ) → is_outstanding w.requests n ≡ true → is_running w.requests n ≡ false → ends_doomed g.linux w.requests n ≡ true → Change g w (step.Issue n) (answer.Ended (doomed_result g.linux w.requests n) no_bytes)
  cancels : (n : ℕ) → is_outstanding w.requests n ≡ true → is_running w.requests n ≡ false → ends_doomed g.linux w.requests n ≡ false → may_start g.linux (requests_of w) n ≡ true → is_cancel (entry_of w.requests n) ≡ true → Change g w (step.Issue n) (answer.Ended (cancel_result g.linux w.requests n) no_bytes)
  finishes : (n : ℕ) (res : ℤ) (bytes : List ℕ) → is_running w.requests n ≡ true → Change g w (step.Finish n) (answer.Ended res bytes)
  flushes : (moved : ℕ) → Change g w step.Flush (answer.Moved moved)
  sees_tail : (tail : ℕ) → Change g w step.LoadCqTail (answer.Tail tail)
  reaps : (completion : Cqe) → next_to_reap w.completions ≡ Some completion → Change g w step.Reap (answer.Reaped completion)
  stores_head : (head : ℕ) → Change g w step.StoreCqHead (answer.Head head)
  shuts : w.submission.call ≡ None → Change g w step.Close answer.Shut

pub not_some : {A : Type 0} (o : Option A) → is_some o ≡ false → o ≡ None
not_some o e = search rules

-- A refusal tells nothing, as it computes.
module _ (g : Setup) (w : World) where
  by_test : (s : Step) (b : Bool) (x y : Answer) → (b ≡ true → Change g w s x) → (b ≡ false → Change g w s y) → Change g w s (if b then x else y)
  by_test s b x y so not_so = cond_both b x y (Change g w s) so not_so

  by_option : {A : Type 0} (s : Step) (o : Option A) (f : Option A → Answer) → (o ≡ None → Change g w s (f None))
      → ((x : A) → o ≡ Some x → Change g w s (f (Some x))) → Change g w s (f o)
  by_option s None f none some = none refl
  by_option s (Some x) f none some = some x refl

  begin_of : (count : ℕ) (a : Answer) (is_closed in_call spent : Bool) → w.is_closed ≡ is_closed → is_some w.submission.call ≡ in_call → is_spent w (call_length w.submission count) ≡ spent
      → OrAgain (if is_closed then answer.Closed else (if in_call then answer.InCall else (if spent then answer.Spent else answer.Call (call_length w.submission count)))) a → Change g w (step.Begin count) a
  begin_of count a false false false e f k (inl h) = subst (Change g w (step.Begin count)) (sym h) (begins count e (not_some w.submission.call f) k)
  begin_of count a false false false e f k (inr h) = subst (Change g w (step.Begin count)) (sym h.0) (refuses _ _ (λ v. refl) (search rules))
  begin_of count a _ _ _ e f k h = subst (Change g w (step.Begin count)) (sym h) (refuses _ _ (λ v. refl) (search rules))

  issue_of : (n : ℕ) (outstanding running doomed ready cancel : Bool) → is_outstanding w.requests n ≡ outstanding → is_running w.requests n ≡ running → ends_doomed g.linux w.requests n ≡ doomed → may_start g.linux (requests_of w) n ≡ ready → is_cancel (entry_of w.requests n) ≡ cancel
      → Change g w (step.Issue n)
      (if not outstanding then answer.Unknown else (if running then answer.Running else (if doomed then answer.Ended (doomed_result g.linux w.requests n) no_bytes else (if not ready then answer.NotReady else (if cancel then answer.Ended (cancel_result g.linux w.requests n) no_bytes else answer.Run)))))
  issue_of n true false true ready cancel e f h i j = dooms n e f h
  issue_of n true false false true true e f h i j = cancels n e f h i j
  issue_of n true false false true false e f h i j = runs n e f h i j
  issue_of n _ _ _ _ _ e f h i j = refuses _ _ (λ v. refl) (search rules)

  finish_of : (n : ℕ) (running : Bool) (a : Answer) → is_running w.requests n ≡ running → FinishesApart running a → Change g w (step.Finish n) a
  finish_of n false a e h = subst (Change g w (step.Finish n)) (sym h) (refuses _ _ (λ v. refl) (search rules))
  finish_of n true (answer.Ended res bytes) e h = finishes n res bytes e
  finish_of n true _ e h = absurd h

  pub change_of : (s : Step) (a : Answer) → CalledForApart g w s a → Change g w s a
  change_of (step.Fill slot entry) a e =
      subst (Change g w (step.Fill slot entry)) (sym e)
      (by_test _ _ answer.NoSlot (if is_busy w.submission slot then answer.Busy else answer.Filled) (search (rules, refuses))
      (λ _. by_test _ _ answer.Busy answer.Filled (search (rules, refuses)) (fills slot entry)))
  change_of (step.Index word) a e =
      subst (Change g w (step.Index word)) (sym e) (by_test _ _ answer.Full answer.Staged (search (rules, refuses)) (stages word))
  change_of step.StoreTail a e = subst (Change g w step.StoreTail) (sym e) (stores _)
  change_of step.LoadHead a e = subst (Change g w step.LoadHead) (sym e) (loads _)
  change_of (step.Begin count) a e = begin_of count a _ _ _ refl refl refl e
  change_of step.Take a e =
      subst (Change g w step.Take) (sym e)
      (by_option _ w.submission.call (take_answer_in w) (search (rules, refuses)) (λ call opened.
      by_test _ (eqb call.taken call.count) answer.NoMore
      (place_answer (slice_get w.submission.published (taken w.submission + call.taken))) (search (rules, refuses)) (λ left.
      by_option _ _ place_answer (search (rules, refuses)) (λ place at.
      by_option _ place.entry entry_answer (drops call place opened left at) (λ entry. takes entry call place opened left at)))))
  change_of step.End a e =
      subst (Change g w step.End) (sym e)
      (by_option _ w.submission.call (end_answer_in g w) (search (rules, refuses)) (λ call opened.
      by_test _ _ answer.NotAll (answer.Taken _ _ _) (search (rules, refuses)) (λ all. closes _ _ _ call opened all refl)))
  change_of (step.Issue n) a e = subst (Change g w (step.Issue n)) (sym e) (issue_of n _ _ _ _ _ refl refl refl refl refl)
  change_of (step.Finish n) a e = finish_of n _ a refl e
  change_of step.Flush a e = subst (Change g w step.Flush) (sym e) (flushes _)
  change_of step.LoadCqTail a e = subst (Change g w step.LoadCqTail) (sym e) (sees_tail _)
  change_of step.Reap a e = subst (Change g w step.Reap) (sym e) (by_option _ _ reap_answer_of (search (rules, refuses)) reaps)
  change_of step.StoreCqHead a e = subst (Change g w step.StoreCqHead) (sym e) (stores_head _)
  change_of step.Close a e =
      subst (Change g w step.Close) (sym e)
      (by_test _ _ answer.InCall answer.Shut (search (rules, refuses)) (λ none. shuts (not_some _ none)))
  change_of step.Next a e = subst (Change g w step.Next) (sym e) (by_option _ _ next_answer_of (search (rules, refuses)) (search (rules, refuses)))
