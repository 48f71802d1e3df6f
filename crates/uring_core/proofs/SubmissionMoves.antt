-- What an event makes of the submission ring, each with what is known of it because its answer was called for.
-- `stays` is the frame of all that leave the ring as it was: whatever became of the rest, they tell nothing of it.
use Rattle.std.proofs.Common.{◌≡◌, ℕ, Bool, false, ◌||◌, nat_lt, eqb, ◌+◌, length, Some, None, slice_get, sym, subst, rules, ◌∷◌, arith}
use Rattle.uring_core.proofs.Common.{Answer, Call, Completions, Event, History, IsLawfulApart, LinuxRequests, Place, Setup, Sqe, Step, World, accepted_by, call_length, closes_call, closes_ring, ending_of, entries_of, entry_taken_by, filled_by, happens, is_full, is_load_head, is_spent, is_store_tail, opened_by, opens_call, places_from, requests_of, staged_by, taken, takes_in, takes_position, taking_entry_of, taking_of, with_begun, with_filled, with_head_loaded, with_published, with_staged, world}
use Rattle.uring_core.specs.declared.step.Step.TheVariants as step
use Rattle.uring_core.specs.declared.answer.Answer.TheVariants as answer
use Rattle.uring_core.proofs.Changes.{Change, fills as event_fills, stores as event_stores, loads as event_loads, refuses as event_refuses, stages as event_stages, begins as event_begins, takes as event_takes, drops as event_drops, closes as event_closes, change_of}

-- an event that tells nothing of the submission ring
pub record IsOffSubmission (e : Event) : Type 0 where
  pub stages : staged_by e ≡ None
  pub fills : (slot : ℕ) → filled_by slot e ≡ None
  pub takes_entry : entry_taken_by e ≡ None
  pub takes : takes_position e ≡ false
  pub opens : opened_by e ≡ None
  pub opens_none : opens_call e ≡ false
  pub accepts : accepted_by e ≡ None
  pub closes : closes_call e ≡ false
  pub takes_into : takes_in e ≡ false
  pub stores_tail : is_store_tail e ≡ false
  pub loads_head : is_load_head e ≡ false

-- what such an event leaves: no call is accepted, and the ring closes only by the event that says so
pub record LeavesCalls (w : World) (e : Event) (r : LinuxRequests) (is_closed : Bool) : Type 0 where
  pub accepted : r.requests.accepted ≡ w.requests.accepted
  pub cuts : r.requests.cuts ≡ w.requests.cuts
  pub shut : is_closed ≡ (closes_ring e || w.is_closed)

pub data SubmissionMove (g : Setup) (w : World) : Step → Answer → World → Type 0 where
  stays : (s : Step) (a : Answer) (r : LinuxRequests) (c : Completions) (is_closed : Bool) → IsOffSubmission (s, a) → LeavesCalls w (s, a) r is_closed
      → SubmissionMove g w s a (record { submission = w.submission; requests = r.requests; drains = r.drains; completions = c; is_closed = is_closed })
  fills : (slot : ℕ) (entry : Sqe)
      → SubmissionMove g w (step.Fill slot entry) answer.Filled (record w { submission = with_filled w.submission slot entry })
  stages : (word : ℕ) → is_full g.sq w.submission ≡ false
      → SubmissionMove g w (step.Index word) answer.Staged (record w { submission = with_staged w.submission word })
  stores : (tail : ℕ) → SubmissionMove g w step.StoreTail (answer.Tail tail) (record w { submission = with_published g.sq w.submission })
  loads : (head : ℕ) → SubmissionMove g w step.LoadHead (answer.Head head) (record w { submission = with_head_loaded w.submission })
  begins : (count : ℕ) → w.is_closed ≡ false → w.submission.call ≡ None → is_spent w (call_length w.submission count) ≡ false
      → SubmissionMove g w (step.Begin count) (answer.Call (call_length w.submission count)) (record w { submission = with_begun w.submission count })
  takes : (entry : Sqe) (call : Call) (place : Place) → w.submission.call ≡ Some call → eqb call.taken call.count ≡ false
      → slice_get w.submission.published (taken w.submission + call.taken) ≡ Some place → place.entry ≡ Some entry
      → SubmissionMove g w step.Take (answer.Entry entry) (taking_entry_of g w entry (Some call))
  drops : (call : Call) (place : Place) → w.submission.call ≡ Some call → eqb call.taken call.count ≡ false
      → slice_get w.submission.published (taken w.submission + call.taken) ≡ Some place → place.entry ≡ None
      → SubmissionMove g w step.Take answer.Dropped (taking_of g w (Some call))
  closes : (accepted missed head : ℕ) (call : Call) → w.submission.call ≡ Some call → nat_lt call.taken call.count ≡ false
      → accepted ≡ length (entries_of (places_from w.submission call.count))
      → SubmissionMove g w step.End (answer.Taken accepted missed head) (ending_of g w (Some call))

submission_by : (g : Setup) (w : World) (s : Step) (a : Answer) → Change g w s a
    → SubmissionMove g w s a (happens g w s a)
submission_by g w s a (event_refuses _ _ same silent) =
    rw same (stays s a (requests_of w) w.completions w.is_closed (assumption silent) (grind arith))
submission_by g w s a (event_fills slot entry free) = fills slot entry
submission_by g w s a (event_stages word room) = stages word room
submission_by g w s a (event_stores tail) = stores tail
submission_by g w s a (event_loads head) = loads head
submission_by g w s a (event_begins count is_open no_call unspent) =
    begins count is_open no_call unspent
submission_by g w s a (event_takes entry call place opened left at valid) =
    subst (λ o. SubmissionMove g w step.Take (answer.Entry entry) (taking_entry_of g w entry o)) (sym opened) (takes entry call place opened left at valid)
submission_by g w s a (event_drops call place opened left at invalid) =
    subst (λ o. SubmissionMove g w step.Take answer.Dropped (taking_of g w o)) (sym opened) (drops call place opened left at invalid)
submission_by g w s a (event_closes accepted missed head call opened all counted) =
    subst (λ o. SubmissionMove g w step.End (answer.Taken accepted missed head) (ending_of g w o)) (sym opened) (closes accepted missed head call opened all counted)
submission_by g w s a _ = stays _ _ (requests_of (happens g w s a)) _ _ (search rules) (grind arith)

pub submission_move : (g : Setup) (s : Step) (a : Answer) (h : History)
    → IsLawfulApart g ((s, a) ∷ h) → SubmissionMove g (world g h) s a (world g ((s, a) ∷ h))
submission_move g s a h lawful = search (rules, submission_by, change_of)
