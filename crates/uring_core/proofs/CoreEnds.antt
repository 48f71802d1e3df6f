-- What a core shows as a submission call closes, as a request ends, and as it is made.
use Rattle.std.proofs.Common.{◌≡◌, ℕ, ◌+◌, ◌≤◌, ℤ, true, false, List, [], ◌∷◌, length, Option, Some, None, refl, sym, arith}
use Rattle.uring_core.proofs.Common.{Answer, Call, Completions, Core, Cq, FitsApart, History, IsFinished, LinuxRequests, Op, Setup, ShowsCompletions, ShowsSubmission, ShowsWorld, Sq, Sqe, Submission, World, cond_some, end_answer_in, ending_of, is_running, issue_answer, issue_told, length-append, no_bytes, no_completion, no_submission, requests_of, sum_by_push, with_closed, with_end_of, with_told, world, happens}
use Rattle.uring_linux.specs.LinuxRequests.{no_request, with_started}
use Rattle.uring_entry.specs.declared.operation.Outcome.{Outcome}
use Rattle.uring_rings.specs.SqAnswers as ring
use Rattle.uring_rings.specs.declared.answers.EndAnswer.TheVariants as ended_as
use Rattle.uring_rings.specs.declared.answers.Taken.{Taken}
use Rattle.uring_rules.specs.RulesDispatch.{Rules, ShowsRequests, HasStarted, HasEnded, HasFinished, HasCalled}
use Rattle.uring_rules.specs.RulesCalls.{called_by}
use Rattle.uring_rules.specs.RulesIssues.{issued, posts_of, posted_by, ended_by, ended_at_issue}
use Rattle.uring_dispatch.specs.declared.answers.IssuedPosting.{IssuedPosting}
use Rattle.uring_dispatch.specs.declared.answers.IssuedPosting.TheVariants as issue
use Rattle.uring_dispatch.specs.declared.answers.Posts.{Posts}
use Rattle.uring_core.specs.declared.step.Step.TheVariants as step
use Rattle.uring_core.specs.declared.answer.Answer.TheVariants as answer
use Rattle.uring_core.proofs.CoreTakes.{held_within}
use Rattle.uring_core.proofs.TakenEntries.{closed_entries}

-- End.

-- what is known of the dispatcher once it accepted the entries of a call
pub record Accepts (p : Core) (d : Rules) : Type 0 where
  pub rules : d.linux ≡ p.dispatch.linux
  pub shows : (l : LinuxRequests) → ShowsRequests p.dispatch l
      → ShowsRequests d (called_by p.dispatch.linux l p.held)
  pub accepted : d.accepted ≡ p.dispatch.accepted + length p.held
  pub outstanding : d.outstanding ≡ p.dispatch.outstanding + length p.held
  pub between : d.is_between_calls ≡ true

-- what the end of a call shows and answers, by the call that is open
end_shows : (p : Core) (w : World) (q : Sq) (d : Rules) (t : Taken) (c : Option Call) → ShowsWorld p w
    → w.submission.call ≡ c → Accepts p d → ended_as.Taken t ≡ ring.end_of p.setup w.submission c
    → ShowsSubmission p.setup q (ring.closed_on w.submission c)
    → ShowsWorld (record p { sq = q; dispatch = d; held = [] }) (ending_of p.setup w c)
end_shows p w q d t None s is accepts e shown = grind arith
end_shows p w q d t (Some call) s is accepts e shown = grind (arith, closed_entries, held_within)

end_called : (g : Setup) (w : World) (t : Taken) (c : Option Call) → ended_as.Taken t ≡ ring.end_of g w.submission c
    → answer.Taken t.accepted t.dropped t.head ≡ end_answer_in g w c
end_called g w t c e = grind (arith, with_closed, sum_by_push)

pub end_goes : (p : Core) (q : Sq) (d : Rules) (t : Taken)
    → ((g : Setup) (l : Submission) → ShowsSubmission g p.sq l → ended_as.Taken t ≡ ring.end_answer g l)
    → ((g : Setup) (l : Submission) → ShowsSubmission g p.sq l → ShowsSubmission g q (ring.after_end l (ended_as.Taken t)))
    → Accepts p d
    → (h : History) → FitsApart p h
    → FitsApart (record p { sq = q; dispatch = d; held = [] }) ((step.End, answer.Taken t.accepted t.dropped t.head) ∷ h)
end_goes p q d t answered shown accepts h f =
    let e = answered p.setup (world p.setup h).submission f.shows.submission in
    grind (arith, (end_shows p (world p.setup h) q d t (world p.setup h).submission.call f.shows refl accepts e), (end_called p.setup (world p.setup h) t (world p.setup h).submission.call e))

-- The end of a request.

-- what the end of n posts is what is told of it
pub told_end : (g : Setup) (w : World) (n : ℕ) (res : ℤ) (bytes : List ℕ)
    → with_told g.cq w.completions (posts_of g.linux w.requests n res) res bytes
    ≡ with_end_of g w n res bytes
told_end g w n res bytes = grind arith

-- The parts after an end: one request less is outstanding, and one promised post less is left at most.
ended_shows : (p : Core) (w : World) (d : Rules) (q : Cq) (r : LinuxRequests) (n : ℕ) (res : ℤ) (bytes : List ℕ)
    → ShowsWorld p w
    → ShowsRequests d r → d.linux ≡ p.dispatch.linux → d.accepted ≡ p.dispatch.accepted
    → d.outstanding + 1 ≡ p.dispatch.outstanding → p.dispatch.room ≤ d.room
    → d.is_between_calls ≡ p.dispatch.is_between_calls
    → ShowsCompletions p.setup q (with_end_of p.setup w n res bytes)
    → p.cq.room ≤ q.room + 1 → (p.cq.room ≤ p.cq.spare → q.room ≤ q.spare)
    → ShowsWorld (record p { dispatch = d; cq = q }) (record w { requests = r.requests; drains = r.drains; completions = with_end_of p.setup w n res bytes })
ended_shows p w d q r n res bytes s shows same_rules accepted outstanding room between shown left promised =
    grind (arith, length-append)

-- Issue.

issue_ended : (g : Setup) (w : World) (n : ℕ) (res : ℤ) (posted : Posts)
    → issue.Ended res posted ≡ issued g.linux (requests_of w) n
    → (answer.Ended res no_bytes ≡ issue_answer g w n) × (posted ≡ posts_of g.linux w.requests n res)
issue_ended g w n res posted is = grind arith

pub run_goes : (p : Core) (d : Rules) (n : ℕ) (op : Op)
    → ((l : LinuxRequests) → ShowsRequests p.dispatch l → issue.Run op ≡ issued p.dispatch.linux l n)
    → ((l : LinuxRequests) → ShowsRequests p.dispatch l → ShowsRequests d (with_started l n))
    → HasStarted p.dispatch d
    → (h : History) → FitsApart p h
    → FitsApart (record p { dispatch = d }) ((step.Issue n, answer.Run) ∷ h)
run_goes p d n op answered shows counts h f = grind arith

-- an Issue that is refused changes nothing
pub issue_refused_goes : (p : Core) (d : Rules) (n : ℕ) (r : IssuedPosting)
    → ((l : LinuxRequests) → ShowsRequests p.dispatch l → r ≡ issued p.dispatch.linux l n)
    → d ≡ p.dispatch → ((w : World) → happens p.setup w (step.Issue n) (issue_told r) ≡ w)
    → (h : History) → FitsApart p h
    → FitsApart (record p { dispatch = d }) ((step.Issue n, issue_told r) ∷ h)
issue_refused_goes p d n r answered same stays h f = grind arith

pub issue_ended_goes : (p : Core) (d : Rules) (q : Cq) (n : ℕ) (res : ℤ) (posted : Posts)
    → ((l : LinuxRequests) → ShowsRequests p.dispatch l → issue.Ended res posted ≡ issued p.dispatch.linux l n)
    → ((l : LinuxRequests) → ShowsRequests p.dispatch l → ShowsRequests d (ended_at_issue p.dispatch.linux l n res))
    → HasEnded p.dispatch d
    → ((g : Setup) (l : Completions) → ShowsCompletions g p.cq l → ShowsCompletions g q (with_told g.cq l posted res no_bytes))
    → p.cq.room ≤ q.room + 1 → (p.cq.room ≤ p.cq.spare → q.room ≤ q.spare)
    → (h : History) → FitsApart p h
    → FitsApart (record p { dispatch = d; cq = q }) ((step.Issue n, answer.Ended res no_bytes) ∷ h)
issue_ended_goes p d q n res posted answered shows counts shown left promised h f =
    let w = world p.setup h in
    let s = f.shows in
    let called = issue_ended p.setup w n res posted (rw s.rules at (answered (requests_of w) s.requests)) in
    let ended = rw s.rules at (shows (requests_of w) s.requests) in
    let told = rw called.1 at (shown p.setup w.completions s.completions) in
    record {
      shows = ended_shows p w d q (ended_at_issue p.setup.linux (requests_of w) n res) n res no_bytes s ended counts.linux counts.accepted counts.outstanding counts.room counts.between
          (rw (← told_end p.setup w n res no_bytes) told) left promised;
      lawful = (called.0, f.lawful);
    }

-- Finish.

-- what ended was running, and posts what its end posts
ended_running : (g : Setup) (w : World) (n : ℕ) (res : ℤ) (posted : Posts)
    → Some posted ≡ posted_by g.linux (requests_of w) n res
    → (is_running w.requests n ≡ true) × (posted ≡ posts_of g.linux w.requests n res)
ended_running g w n res posted e = let p = cond_some (is_running w.requests n) (posts_of g.linux w.requests n res) posted (sym e) in (p.0, sym p.1)

pub finish_goes : (p : Core) (d : Rules) (q : Cq) (n : ℕ) (res : ℤ) (bytes : List ℕ) (posted : Posts)
    → ((l : LinuxRequests) → ShowsRequests p.dispatch l → Some posted ≡ posted_by p.dispatch.linux l n res)
    → ((l : LinuxRequests) (bytes : List ℕ) → ShowsRequests p.dispatch l → ShowsRequests d (ended_by p.dispatch.linux l n res bytes))
    → HasFinished p.dispatch d
    → ((g : Setup) (l : Completions) → ShowsCompletions g p.cq l → ShowsCompletions g q (with_told g.cq l posted res bytes))
    → p.cq.room ≤ q.room + 1 → (p.cq.room ≤ p.cq.spare → q.room ≤ q.spare)
    → (h : History) → FitsApart p h
    → FitsApart (record p { dispatch = d; cq = q }) ((step.Finish n, answer.Ended res bytes) ∷ h)
finish_goes p d q n res bytes posted answered shows counts shown left promised h f =
    let w = world p.setup h in
    let s = f.shows in
    let ended = ended_running p.setup w n res posted (rw s.rules at (answered (requests_of w) s.requests)) in
    let gone = rw s.rules at (shows (requests_of w) bytes s.requests) in
    let told = rw ended.1 at (shown p.setup w.completions s.completions) in
    record {
      shows = ended_shows p w d q (ended_by p.setup.linux (requests_of w) n res bytes) n res bytes s gone counts.linux counts.accepted counts.outstanding counts.room counts.between
          (rw (← told_end p.setup w n res bytes) told) left promised;
      lawful = (rw ended.0 tt, f.lawful);
    }

-- the entries accepted are those held
pub accepts_held : (p : Core) (d : Rules) (entries : List Sqe) → entries ≡ p.held
    → ((l : LinuxRequests) → ShowsRequests p.dispatch l → ShowsRequests d (called_by p.dispatch.linux l entries))
    → HasCalled (length entries) p.dispatch d → d.is_between_calls ≡ true
    → Accepts p d
accepts_held p d entries same shows counts between = grind arith

-- New.

pub new_fits : (p : Core) → ShowsSubmission p.setup p.sq no_submission
    → ShowsCompletions p.setup p.cq no_completion → p.cq.room ≡ 0
    → ShowsRequests p.dispatch no_request → p.dispatch.linux ≡ p.setup.linux
    → p.dispatch.is_between_calls ≡ true
    → p.held ≡ [] → p.has_skipped ≡ false → p.is_closed ≡ false → FitsApart p []
new_fits p submission completions none_promised requests rules between held none_skipped open_ring = grind arith

-- what posts as it ends was running
pub ended_as_posted : (g : Setup) (w : World) (n : ℕ) (outcome : Outcome) (posted : Posts) (a : Answer)
    → Some posted ≡ posted_by g.linux (requests_of w) n outcome.res
    → a ≡ answer.Ended outcome.res outcome.bytes → IsFinished w n outcome a
ended_as_posted g w n outcome posted a told is = grind arith
