-- What an event makes of the completion ring, each with what is known of it because its answer was called for.
-- `stays` is the frame of all that leave the ring as it was: whatever became of the rest, they tell nothing of it.
use Rattle.std.proofs.Common.{◌≡◌, ◌∙◌, ℕ, ℤ, Bool, false, List, [], ◌∷◌, ◌++◌, Some, None, refl, sym, subst, append-nil, rules}
use Rattle.uring_core.proofs.Common.{Answer, Cqe, Event, History, IsLawfulApart, LinuxRequests, Requests, Setup, Sqe, Step, Submission, World, end_told_by, ending_of, entries_of, happens, is_flush, is_load_cq_tail, is_store_cq_head, next_to_reap, no_bytes, places_from, reaped_by, requests_of, taking_entry_of, taking_of, with_end_of, with_flushed, with_head_stored, with_reaped, with_tail_loaded, world}
use Rattle.uring_core.specs.declared.step.Step.TheVariants as step
use Rattle.uring_core.specs.declared.answer.Answer.TheVariants as answer
use Rattle.uring_core.proofs.Changes.{Change, refuses as event_refuses, takes as event_takes, drops as event_drops, closes as event_closes, finishes as event_finishes, reaps as event_reaps, change_of}

-- an event that tells nothing of the completion ring's head and tail
pub record IsOffCompletions (e : Event) : Type 0 where
  pub reaps : reaped_by e ≡ None
  pub flushes : is_flush e ≡ false
  pub loads_cq_tail : is_load_cq_tail e ≡ false
  pub stores_cq_head : is_store_cq_head e ≡ false

-- an event that ends no request: the ends stay, and entries may be accepted after those accepted before
pub record LeavesEnds (r later : Requests) : Type 0 where
  pub more : List Sqe
  pub accepted : later.accepted ≡ r.accepted ++ more
  pub ended : later.ended ≡ r.ended

pub data CompletionMove (g : Setup) (w : World) : Step → Answer → World → Type 0 where
  stays : (s : Step) (a : Answer) (l : Submission) (r : LinuxRequests) (is_closed : Bool) → IsOffCompletions (s, a) → end_told_by (s, a) ≡ None
      → LeavesEnds w.requests r.requests
      → CompletionMove g w s a (record { submission = l; requests = r.requests; drains = r.drains; completions = w.completions; is_closed = is_closed })
  ends : (s : Step) (a : Answer) (n : ℕ) (res : ℤ) (bytes : List ℕ) (r : LinuxRequests) → IsOffCompletions (s, a)
      → end_told_by (s, a) ≡ Some (record { number = n; res = res; bytes = bytes })
      → r.requests.accepted ≡ w.requests.accepted → r.requests.ended ≡ w.requests.ended ++ record { number = n; res = res; bytes = bytes } ∷ []
      → CompletionMove g w s a (record w { requests = r.requests; drains = r.drains; completions = with_end_of g w n res bytes })
  flushes : (moved : ℕ) → CompletionMove g w step.Flush (answer.Moved moved) (record w { completions = with_flushed g.cq w.completions })
  sees_tail : (tail : ℕ) → CompletionMove g w step.LoadCqTail (answer.Tail tail) (record w { completions = with_tail_loaded w.completions })
  reaps : (completion : Cqe) → next_to_reap w.completions ≡ Some completion
      → CompletionMove g w step.Reap (answer.Reaped completion) (record w { completions = with_reaped w.completions completion })
  stores_head : (head : ℕ) → CompletionMove g w step.StoreCqHead (answer.Head head) (record w { completions = with_head_stored w.completions })

-- what ends no request, and is off the completion ring, leaves both as they were
keeps_ends : (g : Setup) (w : World) (s : Step) (a : Answer) (v : World) → IsOffCompletions (s, a)
    → end_told_by (s, a) ≡ None → v.requests.accepted ≡ w.requests.accepted → v.requests.ended ≡ w.requests.ended
    → CompletionMove g w s a (record v { completions = w.completions })
keeps_ends g w s a v off no_end accepted ended =
    stays s a v.submission (requests_of v) v.is_closed off no_end
    (record { more = []; accepted = accepted ∙ sym (append-nil w.requests.accepted); ended = ended })

-- an end as a request is issued, by either's rules
ends_issued : (g : Setup) (w : World) (n : ℕ) (res : ℤ)
    → CompletionMove g w (step.Issue n) (answer.Ended res no_bytes) (happens g w (step.Issue n) (answer.Ended res no_bytes))
ends_issued g w n res =
    ends _ _ n res no_bytes (requests_of (happens g w (step.Issue n) (answer.Ended res no_bytes))) (search rules) refl (search rules) (search rules)

completion_by : (g : Setup) (w : World) (s : Step) (a : Answer) → Change g w s a
    → CompletionMove g w s a (happens g w s a)
completion_by g w s a (event_refuses _ _ same i) =
    subst (CompletionMove g w s a) (sym (same w)) (keeps_ends g w s a w (assumption i) i.ends refl refl)
completion_by g w s a (event_takes entry call place opened left at valid) =
    subst (λ o. CompletionMove g w step.Take (answer.Entry entry) (taking_entry_of g w entry o)) (sym opened)
    (keeps_ends g w _ _ (taking_entry_of g w entry (Some call)) (search rules) refl refl refl)
completion_by g w s a (event_drops call place opened left at invalid) =
    subst (λ o. CompletionMove g w step.Take answer.Dropped (taking_of g w o)) (sym opened)
    (keeps_ends g w _ _ (taking_of g w (Some call)) (search rules) refl refl refl)
completion_by g w s a (event_closes accepted missed head call opened all counted) =
    subst (λ o. CompletionMove g w step.End (answer.Taken accepted missed head) (ending_of g w o)) (sym opened) (stays _ _ _ (requests_of (ending_of g w (Some call))) _ (search rules) refl (record { more = entries_of (places_from w.submission call.count); accepted = refl; ended = refl }))
completion_by g w s a (event_finishes n res bytes running) =
    ends _ _ n res bytes (requests_of (happens g w (step.Finish n) (answer.Ended res bytes))) (search rules) refl refl refl
completion_by g w s a (event_reaps completion next) = reaps completion next
completion_by g w s a _ =
    first_of (search (rules, flushes, sees_tail, stores_head, ends_issued), search (rules, (keeps_ends g w s a (happens g w s a))))

pub completion_move : (g : Setup) (s : Step) (a : Answer) (h : History)
    → IsLawfulApart g ((s, a) ∷ h) → CompletionMove g (world g h) s a (world g ((s, a) ∷ h))
completion_move g s a h lawful = search (rules, completion_by, change_of)
