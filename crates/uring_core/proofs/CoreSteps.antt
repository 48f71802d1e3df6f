-- What a core shows after a step on one ring alone, from what that ring shows. Each such step goes on from here in its function's answers.
use Rattle.std.proofs.Common.{◌≡◌, Bool, cond, ◌∷◌, arith}
use Rattle.uring_core.proofs.Common.{Completions, Core, Cq, Event, FitsApart, History, IsCore, KeepsMemory, Setup, ShowsCompletions, ShowsSubmission, ShowsWorld, Sq, Submission, World, held_by, taken_entries}

-- a core that fits one event more is a core
pub core_after : (p q : Core) (e : Event) → q.setup ≡ p.setup
    → ((h : History) → FitsApart p h → FitsApart q (e ∷ h)) → IsCore p → IsCore q
core_after p q e same goes core = grind arith

-- A change of the submission ring alone, which leaves the open call and what it took as they were.
pub on_submission : (p : Core) (w : World) (q : Sq) (l : Submission) → ShowsWorld p w
    → ShowsSubmission p.setup q l → l.call ≡ w.submission.call
    → held_by l l.call ≡ held_by w.submission w.submission.call
    → taken_entries l ≡ taken_entries w.submission
    → ShowsWorld (record p { sq = q }) (record w { submission = l })
on_submission p w q l s shows call held took = grind arith

-- A step on the submission ring alone, from what the ring answers and what it shows then.
abbrev pub SubmissionStep : Core → Sq → Event → (Setup → Submission → Type 0)
    → (Setup → Submission → Submission) → Type 0
SubmissionStep p q e Answered after =
    ((g : Setup) (l : Submission) → ShowsSubmission g p.sq l → Answered g l) → ((g : Setup) (l : Submission) → ShowsSubmission g p.sq l → ShowsSubmission g q (after g l))
    → (h : History) → FitsApart p h → FitsApart (record p { sq = q }) (e ∷ h)

-- A step on the completion ring alone, likewise.
abbrev pub CompletionStep : Core → Cq → Event → (Setup → Completions → Type 0)
    → (Setup → Completions → Completions) → Type 0
CompletionStep p q e Answered after =
    ((g : Setup) (l : Completions) → ShowsCompletions g p.cq l → Answered g l) → ((g : Setup) (l : Completions) → ShowsCompletions g p.cq l → ShowsCompletions g q (after g l))
    → q.room ≡ p.cq.room → KeepsMemory p.cq q → (h : History) → FitsApart p h
    → FitsApart (record p { cq = q }) (e ∷ h)

-- what is told of a choice is a choice of what is told
pub told_if : {A B : Type 0} (f : A → B) (b : Bool) (x y : A) → f (cond b x y) ≡ cond b (f x) (f y)
told_if f b x y = grind arith
