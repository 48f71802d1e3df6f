-- What the submission ring and the calls tell of a history: as much as its events do that are of them alone.
use Rattle.std.proofs.Common.{◌≡◌, ◌++◌, ℕ, ℤ, Bool, true, false, List, [], ◌∷◌, Option, Some, None, if◌then◌else◌, refl, sym, ap, subst, ◌∙◌}
use Rattle.uring_observed_text.proofs.Common.{Answer, Call, CalledForApart, History, MayShow, Requests, Setup, Sqe, Step, Submission, World, beginning, closing, ending, ending_of, entries_from, filling, finishing, happens, is_hidden, is_submitting, issuing, reaping, requests_of, staging, submitted, taking, taking_entry_of, taking_of, visible, world}
use Rattle.uring_entry.specs.Completions.{Completions}
use Rattle.uring_linux.specs.LinuxRequests.{LinuxRequests}
use Rattle.uring_rules.specs.Rules.{with_issued_end}
use Rattle.uring_core.specs.declared.step.Step.TheVariants as step
use Rattle.uring_core.specs.declared.answer.Answer.TheVariants as answer

-- two worlds with the same submission ring and calls
record SameSide (w v : World) : Type 0 where
  submission : w.submission ≡ v.submission
  accepted : w.requests.accepted ≡ v.requests.accepted
  closed : w.is_closed ≡ v.is_closed

same_side : (w : World) → SameSide w w
same_side w = record { submission = refl; accepted = refl; closed = refl }

side_then : (u v w : World) → SameSide u v → SameSide v w → SameSide u w
side_then u v w s t = record { submission = s.submission ∙ t.submission; accepted = s.accepted ∙ t.accepted; closed = s.closed ∙ t.closed }

abbrev world_with : Submission → LinuxRequests → Completions → Bool → World
world_with l r c closed = record {
  submission = l;
  requests = r.requests;
  drains = r.drains;
  completions = c;
  is_closed = closed;
}

-- an end as it is issued accepts nothing
accepted_issued : (linux : Bool) (r : Requests) (n : ℕ) (res : ℤ)
    → (with_issued_end linux r n res).accepted ≡ r.accepted
accepted_issued true r n res = refl
accepted_issued false r n res = refl

-- ---- the answers

called_side : (g : Setup) (s : Step) (a : Answer) (w v : World) → is_submitting s ≡ true → SameSide w v
    → CalledForApart g w s a → CalledForApart g v s a
called_side g (step.Begin count) a w v of e called = rw (sym e.submission, sym e.accepted, sym e.closed) called
called_side g step.Take a w v of e called = rw (sym e.submission) called
called_side g step.End a w v of e called = rw (sym e.submission) called
called_side g _ a w v of e called = cc

-- ---- the moves

-- what an event of them makes is the same in both
moved : (g : Setup) (s : Step) (a : Answer) (l : Submission) (closed : Bool) (r q : LinuxRequests) (c d : Completions)
    → is_submitting s ≡ true → r.requests.accepted ≡ q.requests.accepted
    → SameSide (happens g (world_with l r c closed) s a) (happens g (world_with l q d closed) s a)
moved g (step.Fill slot entry) a l closed r q c d of e = go a where
  go : (a : Answer) → SameSide (filling (world_with l r c closed) slot entry a) (filling (world_with l q d closed) slot entry a)
  go answer.Filled = record { submission = refl; accepted = e; closed = refl }
  go _ = record { submission = refl; accepted = e; closed = refl }
moved g (step.Index word) a l closed r q c d of e = go a where
  go : (a : Answer) → SameSide (staging (world_with l r c closed) word a) (staging (world_with l q d closed) word a)
  go answer.Staged = record { submission = refl; accepted = e; closed = refl }
  go _ = record { submission = refl; accepted = e; closed = refl }
moved g (step.Begin count) a l closed r q c d of e = go a where
  go : (a : Answer) → SameSide (beginning (world_with l r c closed) count a) (beginning (world_with l q d closed) count a)
  go (answer.Call n) = record { submission = refl; accepted = e; closed = refl }
  go _ = record { submission = refl; accepted = e; closed = refl }
moved g step.Take a l closed r q c d of e = go a where
  entry_taken : (entry : Sqe) (call : Option Call) → SameSide (taking_entry_of g (world_with l r c closed) entry call) (taking_entry_of g (world_with l q d closed) entry call)
  entry_taken entry None = record { submission = refl; accepted = e; closed = refl }
  entry_taken entry (Some call) = record { submission = refl; accepted = e; closed = refl }

  word_taken : (call : Option Call) → SameSide (taking_of g (world_with l r c closed) call) (taking_of g (world_with l q d closed) call)
  word_taken None = record { submission = refl; accepted = e; closed = refl }
  word_taken (Some call) = record { submission = refl; accepted = e; closed = refl }

  go : (a : Answer) → SameSide (taking g (world_with l r c closed) a) (taking g (world_with l q d closed) a)
  go (answer.Entry entry) = entry_taken entry l.call
  go answer.Dropped = word_taken l.call
  go _ = record { submission = refl; accepted = e; closed = refl }
moved g step.End a l closed r q c d of e = go a where
  ended : (call : Option Call) → SameSide (ending_of g (world_with l r c closed) call) (ending_of g (world_with l q d closed) call)
  ended None = record { submission = refl; accepted = e; closed = refl }
  ended (Some call) = record { submission = refl; accepted = ap (λ (es : List Sqe). es ++ entries_from l call.count) e; closed = refl }

  go : (a : Answer) → SameSide (ending g (world_with l r c closed) a) (ending g (world_with l q d closed) a)
  go (answer.Taken accepted dropped head) = ended l.call
  go _ = record { submission = refl; accepted = e; closed = refl }
moved g step.Close a l closed r q c d of e = go a where
  go : (a : Answer) → SameSide (closing (world_with l r c closed) a) (closing (world_with l q d closed) a)
  go answer.Shut = record { submission = refl; accepted = e; closed = refl }
  go _ = record { submission = refl; accepted = e; closed = refl }
moved g _ a l closed r q c d of e = record { submission = cc; accepted = cc; closed = cc }

moved_side : (g : Setup) (s : Step) (a : Answer) (w v : World) → is_submitting s ≡ true → SameSide w v
    → SameSide (happens g w s a) (happens g v s a)
moved_side g s a w v of e =
    subst (λ (l : Submission). SameSide (happens g w s a) (happens g (world_with l (requests_of v) v.completions v.is_closed) s a)) e.submission
    (subst (λ (b : Bool). SameSide (happens g w s a) (happens g (world_with w.submission (requests_of v) v.completions b) s a)) e.closed
    (moved g s a w.submission w.is_closed (requests_of w) (requests_of v) w.completions v.completions of e.accepted))

-- any other event makes nothing of them
other_side : (g : Setup) (s : Step) (a : Answer) (w : World) → is_submitting s ≡ false
    → SameSide (happens g w s a) w
other_side g (step.Issue n) a w of = go a where
  go : (a : Answer) → SameSide (issuing g w n a) w
  go answer.Run = record { submission = refl; accepted = refl; closed = refl }
  go (answer.Ended res bytes) = record { submission = refl; accepted = accepted_issued g.linux w.requests n res; closed = refl }
  go _ = same_side w
other_side g (step.Finish n) a w of = go a where
  go : (a : Answer) → SameSide (finishing g w n a) w
  go (answer.Ended res bytes) = record { submission = refl; accepted = refl; closed = refl }
  go _ = same_side w
other_side g step.Reap a w of = go a where
  go : (a : Answer) → SameSide (reaping w a) w
  go (answer.Reaped completion) = record { submission = refl; accepted = refl; closed = refl }
  go _ = same_side w
other_side g _ a w of = record { submission = cc; accepted = cc; closed = cc }

-- ---- histories

submitted_side : (g : Setup) (h : History) → SameSide (world g h) (world g (submitted h))
submitted_side g [] = same_side (world g [])
submitted_side g (e ∷ h) = go (is_submitting e.0) refl (submitted_side g h) where
  go : (b : Bool) → is_submitting e.0 ≡ b → SameSide (world g h) (world g (submitted h))
      → SameSide (world g (e ∷ h)) (world g (if b then e ∷ submitted h else submitted h))
  go true of before = moved_side g e.0 e.1 (world g h) (world g (submitted h)) of before
  go false of before = side_then (world g (e ∷ h)) (world g h) (world g (submitted h)) (other_side g e.0 e.1 (world g h) of) before

-- a hidden step isn't of them
hidden_other : (s : Step) → is_hidden s ≡ true → is_submitting s ≡ false
hidden_other (step.Issue n) is = refl
hidden_other (step.Finish n) is = refl
hidden_other step.Flush is = refl
hidden_other _ is = absurd (let f : false ≡ true = is in cc)

pub submitted_visible : (h : History) → submitted (visible h) ≡ submitted h
submitted_visible [] = refl
submitted_visible (e ∷ h) = go (is_hidden e.0) refl (submitted_visible h) where
  go : (b : Bool) → is_hidden e.0 ≡ b → submitted (visible h) ≡ submitted h
      → submitted (if b then visible h else e ∷ visible h) ≡ submitted (e ∷ h)
  go true is before = before ∙ sym (ap (λ (b : Bool). if b then e ∷ submitted h else submitted h) (hidden_other e.0 is))
  go false is before = ap (λ (k : History). if is_submitting e.0 then e ∷ k else k) before

-- what may be shown after these events of such a step is called for after those of them alone
pub may_submitted : (g : Setup) (seen : History) (s : Step) (a : Answer) → is_submitting s ≡ true
    → MayShow g seen s a → CalledForApart g (world g (submitted seen)) s a
may_submitted g seen s a of m =
    subst (λ (k : History). CalledForApart g (world g k) s a) (sym (submitted_visible m.h) ∙ ap submitted m.shows)
    (called_side g s a (world g m.h) (world g (submitted m.h)) of (submitted_side g m.h) m.called)
