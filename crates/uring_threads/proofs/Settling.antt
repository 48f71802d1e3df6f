-- The laws of settling: a result that waits can be taken in, and once none waits the history is settled.
-- From what is left at a place, worker by worker.
use Rattle.std.proofs.Common.{◌≡◌, ◌≢◌, ℕ, zero, suc, ◌<◌, ◌≤◌, ◌==◌, List, [], ◌∷◌, ◌++◌, map, drop, true, refl, sym, subst, ◌∙◌, ap, arith, append_assoc, append-nil}
use Rattle.uring_threads.proofs.Common.{AllByRecursion, Done, FinishesApart, History, IsDealtByFile, IsLawfulApart, IsWork, Job, JobResult, NoneWaits, Op, ResultsRun, Settles, Setup, Sqe, Work, all_kept_by, cases_eq, done_by_worker, done_in, entry_of, eq-eqb, finish_of, history_of_append, history_of_cons, job_of, jobs_in, jobs_of, jobs_to, length-map, list_any, map-append, nil_from_length, operation_of, or_left, place_of, place_of_file, result_of, results_of, waiting_of, with_taken_in, world}
use Rattle.uring_core.specs.declared.answer.Answer.TheVariants as answer
use Rattle.uring_threads.proofs.Dealing.{dealt_by_file, workers_join, files_by_worker}
use Rattle.uring_threads.proofs.Sent.{IsOf, accounts, left_runs, runs_left, one_more_at, none_more_at}

-- The operations of a worker begin with those whose results were taken in.

-- one list begins another
abbrev Begins : List Done → List Done → List JobResult → Type 0
Begins first done waiting =
    (more : List Done) × (done ≡ first ++ more) × (results_of more ≡ waiting)

begins : (accepted : List Sqe) (first done : List Done) (later : List Job) (waiting : List JobResult)
    → AllByRecursion (λ d. IsOf accepted (job_of d)) first
    → AllByRecursion (IsOf accepted) (jobs_of done ++ later)
    → results_of first ++ waiting ≡ results_of done → Begins first done waiting
begins accepted [] done later waiting firsts all same = (done, refl, sym same)
begins accepted (c ∷ first) [] later waiting firsts all same = absurd cc
begins accepted (c ∷ first) (d ∷ done) later waiting firsts all same =
    grind (arith, (begins accepted first done later waiting firsts.1 all.1 (ap (drop 1) same)))

module _ (g : Setup) (workers : ℕ) (h : History) (k : ℕ) (lawful : IsLawfulApart g h) (work : Work) (is : IsWork g workers h k work) where
  -- the operations of a worker are those whose results were taken in, and then more, whose results wait
  work_begins : Begins (done_by_worker g workers k h) work.done work.waiting
  work_begins =
      let a = accounts g h lawful in
      let accepted = (world g h).requests.accepted in
      begins accepted _ work.done work.untaken work.waiting (all_kept_by _ (λ d. IsOf accepted (job_of d)) (done_in g h) a.carried)
      (subst (AllByRecursion (IsOf accepted)) (sym is.jobs) (all_kept_by _ (IsOf accepted) (jobs_in g h) a.sent)) is.results

  -- the jobs that were sent are those whose results were taken in, those whose results wait, and those that the worker hasn't taken
  work_left : jobs_to g workers k h ≡ jobs_of (done_by_worker g workers k h) ++ (jobs_of work_begins.0 ++ work.untaken)
  work_left = grind (arith, work_begins, map-append, append_assoc)

-- One result.

-- the first result that waits is of a request that is left
first_is_left : (ds : List Done) (untaken : List Job) (r : JobResult) (later : List JobResult)
    → results_of ds ≡ r ∷ later
    → list_any (λ j. j.number == r.number) (jobs_of ds ++ untaken) ≡ true
first_is_left [] untaken r later same = absurd cc
first_is_left (d ∷ ds) untaken r later same = or_left _ _ (eq-eqb d.number r.number cc)

pub results_run : (g : Setup) → ResultsRun g
results_run g workers h k done untaken r later lawful is =
    let place : Op → ℕ = place_of workers g.files in
    let work : Work = record { done = done; untaken = untaken; waiting = r ∷ later } in
    let more = work_begins g workers h k lawful work is in
    let left = left_runs g h lawful place k _ (work_left g workers h k lawful work is) r.number (first_is_left more.0 untaken r later more.2) in
    let end : Done = record { number = r.number; op = operation_of (entry_of (world g h).requests r.number); outcome = r.outcome } in
    record {
      runs = left.1;
      own = left.0;
      later = record { jobs = is.jobs; results = rw (one_more_at (λ (d : Done). place d.op) k (done_in g h) end left.0, map-append, append_assoc) is.results };
      sent = λ j. refl;
      others = λ j unlike. none_more_at (λ (d : Done). place d.op) j (done_in g h) end (λ same. unlike (sym same ∙ left.0));
    }

-- None waits: then all that a worker carried out was taken in.

pub none_waits : (g : Setup) → NoneWaits g
none_waits g workers h works some lawful are done none =
    let place : Op → ℕ = place_of workers g.files in
    let dealt : IsDealtByFile workers g.files = dealt_by_file workers g.files some in
    let came : (k : ℕ) → k < workers → (done_by_worker g workers k h ≡ (works k).done) × (jobs_to g workers k h ≡ jobs_of (done_by_worker g workers k h) ++ (works k).untaken) = λ k lt.
    let more = work_begins g workers h k lawful (works k) (are k lt) in
    grind (arith, more, (nil_from_length more.0), (length-map more.0 result_of), (none k lt), append-nil, (are k lt).jobs)
    in
    record {
      lawful = workers_join g workers h some lawful (λ k lt. rw (came k lt).0 (done k lt));
      files = λ fd. rw (came (place_of_file workers g.files fd) (grind arith)).0 at (files_by_worker g workers h fd lawful);
      running = λ n. (
        (λ running.
            let op : Op = operation_of (entry_of (world g h).requests n) in
            (place op, dealt.within op, runs_left g h lawful place (place op) _ (came (place op) (dealt.within op)).1 n refl running)),
        (λ there. (left_runs g h lawful place there.0 _ (came there.0 there.1).1 n there.2).1),
      );
    }

-- All that wait.

-- a history into which the results of one worker were taken
pub record IsDrained (g : Setup) (workers : ℕ) (h later : History) (k : ℕ) (work : Work) : Type 0 where
  pub lawful : IsLawfulApart g later
  pub own : IsWork g workers later k (record work { waiting = [] })
  pub sent : (j : ℕ) → jobs_to g workers j later ≡ jobs_to g workers j h
  pub others : (j : ℕ) → j ≢ k → done_by_worker g workers j later ≡ done_by_worker g workers j h

pub drain : (g : Setup) (workers : ℕ) (h : History) (k : ℕ) (done : List Done) (untaken : List Job) (waiting : List JobResult)
    → IsLawfulApart g h
    → IsWork g workers h k (record { done = done; untaken = untaken; waiting = waiting })
    → IsDrained g workers h (with_taken_in waiting h) k (record { done = done; untaken = untaken; waiting = waiting })
drain g workers h k done untaken [] lawful is = grind arith
drain g workers h k done untaken (r ∷ later) lawful is =
    let one = results_run g workers h k done untaken r later lawful is in
    let next : IsLawfulApart g (finish_of r ∷ h) = (subst (λ b. FinishesApart b (answer.Ended r.outcome.res r.outcome.bytes)) (sym one.runs) tt, lawful) in
    let rest = drain g workers (finish_of r ∷ h) k done untaken later next one.later in
    rw (history_of_cons (finish_of r) (map finish_of later) h)
    (record { lawful = rest.lawful; own = rest.own; sent = λ j. rest.sent j ∙ one.sent j; others = λ j unlike. rest.others j unlike ∙ one.others j unlike })

-- a history into which the results of the first workers were taken
record AreDrained (g : Setup) (workers : ℕ) (h : History) (works : ℕ → Work) (count : ℕ) : Type 0 where
  lawful : IsLawfulApart g h
  before : (k : ℕ) → k < count → IsWork g workers h k (record (works k) { waiting = [] })
  after : (k : ℕ) → count ≤ k → k < workers → IsWork g workers h k (works k)

drain_first : (g : Setup) (workers : ℕ) (h : History) (works : ℕ → Work) → IsLawfulApart g h
    → ((k : ℕ) → k < workers → IsWork g workers h k (works k)) → (count : ℕ) → count ≤ workers
    → AreDrained g workers (with_taken_in (waiting_of works count) h) works count
drain_first g workers h works lawful are zero le = grind arith
drain_first g workers h works lawful are (suc count) le =
    let so_far = drain_first g workers h works lawful are count (omega arith) in
    let there : History = with_taken_in (waiting_of works count) h in
    let work : Work = works count in
    let one = drain g workers there count work.done work.untaken work.waiting so_far.lawful (so_far.after count (omega arith) (omega arith)) in
    rw (map-append finish_of (waiting_of works count) work.waiting, history_of_append (map finish_of (waiting_of works count)) (map finish_of work.waiting) h)
    (record {
      lawful = one.lawful;
      before = λ k lt. grind (arith, (cases_eq k count), (so_far.before k), one);
      after = λ k from lt. grind (arith, (so_far.after k (omega arith) lt), one);
    })

pub settles : (g : Setup) → Settles g
settles g workers h works some lawful are done =
    let all = drain_first g workers h works lawful are workers (omega arith) in
    let settled = none_waits g workers (with_taken_in (waiting_of works workers) h) (λ k. record (works k) { waiting = [] }) some all.lawful all.before done (λ k lt. refl) in
    record { lawful = settled.lawful; files = settled.files; running = settled.running }
