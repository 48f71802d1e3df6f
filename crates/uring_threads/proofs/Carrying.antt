-- What the lanes of the workers have carried, as the trace goes on; a lane for jobs that shows no room has carried as many as it holds, so as many requests were started.
use Rattle.std.proofs.Common.{◌≡◌, ◌≢◌, ℕ, ◌<◌, ◌==◌, cond, List, [], ◌∷◌, ◌++◌, length, get_or, count_by, Option, Some, None, refl, ap, ◌∙◌, arith, ◌+◌, ◌≤◌, false, append-nil}
use Rattle.uring_threads.proofs.Common.{Adds, Answer, Bool, Event, Grows, HaveCarried, History, HoldJobs, IsEnded, IsSent, Job, Kept, None, Op, Setup, SomeIsFull, Tally, WorkLanes, cases_eq, count_by-le-length, done_by_worker, done_in, entry_of, history, history_of, history_of_cons, is_finish, is_issue, jobs_in, jobs_to, length-filter, length_push, now, operation_of, place_of, starts_request, step_of, sum_by-cons}
use Rattle.uring_core.specs.declared.step.Step.TheVariants as step
use Rattle.uring_core.specs.declared.answer.Answer.TheVariants as answer
use Rattle.uring_threads.proofs.TraceSteps.{grown_history, longer_history}
use Rattle.uring_threads.proofs.Tallying.{adds_count}
use Rattle.uring_threads.proofs.Sent.{one_more_at, none_more_at}
use Rattle.uring_workers.proofs.LaneFacts.{lane_full}

-- Nothing is sent by events that issue no request, and nothing taken in by those that finish none.

-- what only some events add to stays where none of them is
none_told : {X : Type 0} (told : History → X) (p : Event → Bool)
    → ((e : Event) (h : History) → p e ≡ false → told (e ∷ h) ≡ told h) → (events : List Event) (h : History)
    → count_by p events ≡ 0 → told (history_of events ++ h) ≡ told h
none_told told p stays [] h none = refl
none_told told p stays (e ∷ later) h none =
    grind (arith, (history_of_cons e later h), (none_told told p stays later (e ∷ h)), (stays e h), (sum_by-cons (λ x. cond (p x) 1 0) e later))

pub done_stays : (a b : Kept) (t : Tally) → Adds a b t → t.finishes ≡ 0 → (workers k : ℕ)
    → done_by_worker b.setup workers k (history b) ≡ done_by_worker a.setup workers k (history a)
done_stays a b t p none workers k =
    rw (p.appends.setup, longer_history a b p.appends.events p.appends.trace, none_told (done_in a.setup) (λ e. is_finish (step_of e)) (λ e h none. grind arith) p.appends.events (history a) (adds_count is_finish p ∙ ap (λ (u : Tally). u.finishes) p.tally ∙ none))

-- the jobs sent and the operations done stay
pub record WorkStays (old new : Kept) : Type 0 where
  pub jobs : (workers k : ℕ)
      → jobs_to new.setup workers k (history new) ≡ jobs_to old.setup workers k (history old)
  pub done : (workers k : ℕ)
      → done_by_worker new.setup workers k (history new)
      ≡ done_by_worker old.setup workers k (history old)

pub quiet_stays : (a b : Kept) (t : Tally) → Adds a b t → t.issues ≡ 0 → t.finishes ≡ 0
    → WorkStays a b
quiet_stays a b t p none idle =
    record {
      jobs = λ workers k. rw (p.appends.setup, longer_history a b p.appends.events p.appends.trace, none_told (jobs_in a.setup) (λ e. is_issue (step_of e)) (λ e h none. grind arith) p.appends.events (history a) (adds_count is_issue p ∙ ap (λ (u : Tally). u.issues) p.tally ∙ none));
      done = done_stays a b t p idle;
    }

pub carried_stays : (a b : Kept) (lanes : List WorkLanes) → WorkStays a b → HaveCarried a lanes
    → HaveCarried b lanes
carried_stays a b lanes stays carried = grind arith

-- A request was issued.

-- It runs, and this is its operation; or, without one, it ended at once.
abbrev pub IssuedAs : Kept → Kept → ℕ → Option Op → Type 0
IssuedAs old new n (Some op) =
    Grows old new (step.Issue n, answer.Run) × (op ≡ operation_of (entry_of (now old).requests n))
IssuedAs old new n None = (a : Answer) × Grows old new (step.Issue n, a) × IsEnded a

-- it ended at once: nothing was sent
pub ended_stays : (a b : Kept) (n : ℕ) → IssuedAs a b n None → WorkStays a b
ended_stays a b n issued = grind (arith, grown_history)

-- it runs: its job was sent to its worker
pub carried_run : (a b : Kept) (n place : ℕ) (op : Op) (old new : List WorkLanes)
    → IssuedAs a b n (Some op) → HaveCarried a old → place ≡ place_of (length old) a.setup.files op
    → place < length old → length new ≡ length old
    → ((d : WorkLanes) → IsSent (record { number = n; op = op }) (get_or old place d) (get_or new place d))
    → ((k : ℕ) (d : WorkLanes) → k < length old → k ≢ place → get_or new k d ≡ get_or old k d)
    → HaveCarried b new
carried_run a b n place op old new issued carried at low many was_sent others = λ k d within.
    let j : Job = record { number = n; op = op } in
    let within' : k < length old = omega (arith, within, many) in
    let longer : history b ≡ (step.Issue n, answer.Run) ∷ history a = grown_history a b _ issued.0 in
    let one = one_more_at (λ (i : Job). place_of (length old) a.setup.files i.op) k (jobs_in a.setup (history a)) j in
    let none = none_more_at (λ (i : Job). place_of (length old) a.setup.files i.op) k (jobs_in a.setup (history a)) j in
    rw many (grind (arith, (cases_eq k place), (was_sent d), (others k d within'), (carried k d within'), longer, issued.0.setup, issued.1, one, none))

-- a request that starts sends a job, and nothing else does
one_job : (g : Setup) (h : History) (e : Event)
    → length (jobs_in g (e ∷ h)) ≡ length (jobs_in g h) + cond (starts_request e) 1 0
one_job g h (step.Issue n, answer.Run) = length_push (jobs_in g h) _
one_job g h _ = omega arith

-- each request that starts sends a job
jobs_count : (g : Setup) (events : List Event) (h : History)
    → length (jobs_in g (history_of events ++ h)) ≡ count_by starts_request events + length (jobs_in g h)
jobs_count g [] h = omega arith
jobs_count g (e ∷ later) h =
    rw (history_of_cons e later h) (omega (arith, one_job g h e, jobs_count g later (e ∷ h), sum_by-cons (λ x. cond (starts_request x) 1 0) e later))

-- a lane that shows no room has carried 64 jobs
pub some_full : (k : Kept) (lanes : List WorkLanes) → HaveCarried k lanes → HoldJobs lanes
    → SomeIsFull lanes → 64 ≤ count_by starts_request k.trace
some_full k [] carried hold full = absurd (omega (arith, full.1))
some_full k (d ∷ lanes) carried hold full =
    let few = count_by-le-length (λ (j : Job). place_of (length (d ∷ lanes)) k.setup.files j.op == full.0) (jobs_in k.setup (history k)) in
    let all = rw append-nil at (jobs_count k.setup k.trace []) in
    omega (arith, lane_full (get_or (d ∷ lanes) full.0 d) (hold full.0 d full.1) (full.2 d), ap length (carried full.0 d full.1).jobs, length-filter {X = Job}, few, all)
