-- What a lawful history tells of jobs and of operations: each is that of a request's entry, and of each request as many jobs were sent as operations were carried out, and one more while it runs.
-- And of what is left at a place: of the jobs sent to it, those after the operations that were carried out are of the requests that run.
-- By `Moves` and induction over the history, and by counting how often a number stands among what was sent and carried out.
use Rattle.std.proofs.Common.{◌≡◌, ℕ, ◌<◌, ◌==◌, ℤ, List, [], ◌∷◌, ◌++◌, length, Bool, true, false, cond, refl, ◌∙◌, ap, arith, ◌≢◌, ◌+◌, append-nil, count_by}
use Rattle.uring_threads.proofs.Common.{All-push, All-weaker, AllByRecursion, Answer, CalledForApart, Done, History, IsLawfulApart, Job, Op, Requests, Setup, Sqe, Step, World, and_parts, done_at, done_by, done_in, eq-eqb, eqb-true, filter, is_running, is_running_ended_other, is_running_ended_same, is_running_started_other, is_running_started_same, job_by, job_in, job_of, jobs_at, jobs_in, jobs_of, length-append, list_any, operation_of, requests_of, slice_index_or, sum_by-append, sum_by-cons, sum_by_push, with_issued_end, world, zero_entry}
use Rattle.uring_core.proofs.SoundRequests.{IsSoundRequests, outstanding_tells}
use Rattle.uring_laws.specs.Direct.{with_told}
use Rattle.uring_core.proofs.Moves.{Move, stays, accepts, starts, ends_run, move_of}
use Rattle.uring_core.proofs.Running.{entry_stays}
use Rattle.uring_core.proofs.Sound.{sound_of}
use Rattle.uring_core.proofs.ListCounts.{count_none, count_some}
use Rattle.std.proofs.lemmas.List.Elements.{filter-append}
use Rattle.std.proofs.lemmas.List.Folds.{fold-map}

-- the operation of a request, where these entries were accepted
abbrev pub op_at : List Sqe → ℕ → Op
op_at accepted n = operation_of (slice_index_or accepted n zero_entry)

-- this job is that of a request, where these entries were accepted
abbrev pub IsOf : List Sqe → Job → Type 0
IsOf accepted j = (j.number < length accepted) × (j.op ≡ op_at accepted j.number)

-- What a history has sent and carried out: each of it is of a request, and of each request both as often, but for the job of one that runs.
pub record Accounts (r : Requests) (jobs : List Job) (done : List Done) : Type 0 where
  pub sent : AllByRecursion (IsOf r.accepted) jobs
  pub carried : AllByRecursion (λ d. IsOf r.accepted (job_of d)) done
  pub counts : (n : ℕ) → count_by (λ j. j.number == n) jobs
      ≡ count_by (λ d. d.number == n) done + cond (is_running r n) 1 0

-- an end of what doesn't run changes nothing of it
issued_accounts : (linux : Bool) (r : Requests) (m : ℕ) (res : ℤ) (jobs : List Job) (done : List Done)
    → is_running r m ≡ false → Accounts r jobs done → Accounts (with_issued_end linux r m res) jobs done
issued_accounts linux r m res jobs done idle a =
    let same : (with_issued_end linux r m res).accepted ≡ r.accepted = grind arith in
    record { sent = rw same a.sent; carried = rw same a.carried; counts = λ n. grind (arith, (a.counts n), is_running_ended_same, is_running_ended_other) }

accounts_then : (g : Setup) (w : World) (q : Requests) (s : Step) (a : Answer) (jobs : List Job) (done : List Done)
    → Move g.linux (requests_of w) s a q → CalledForApart g w s a → IsSoundRequests w.requests
    → Accounts w.requests jobs done
    → Accounts q (with_told jobs (job_by w (s, a))) (with_told done (done_by w (s, a)))
accounts_then g w q s a jobs done (stays _ _ no_start no_end) called i all =
    grind arith
accounts_then g w q s a jobs done (accepts accepted missed head entries) called i all =
    let stay : (j : Job) → IsOf w.requests.accepted j → IsOf (w.requests.accepted ++ entries) j = λ j of. grind (arith, entry_stays, length-append) in
    record {
      sent = All-weaker _ _ stay jobs all.sent;
      carried = All-weaker _ _ (λ d. stay (job_of d)) done all.carried;
      counts = all.counts;
    }
accounts_then g w q s a jobs done (starts m outstanding idle spared ready no_cancel) called i all =
    record {
      sent = All-push (IsOf w.requests.accepted) jobs _ all.sent ((outstanding_tells w.requests m outstanding).0, refl);
      carried = all.carried;
      counts = λ n. grind (arith, (all.counts n), outstanding_tells, is_running_started_same, is_running_started_other, eqb-true, (sum_by_push (λ (j : Job). cond (j.number == n) 1 0) jobs (job_in w.requests m)));
    }
accounts_then g w q s a jobs done (ends_run m res bytes running) called i all =
    record {
      sent = all.sent;
      carried = All-push (λ d. IsOf w.requests.accepted (job_of d)) done _ all.carried (i.started_accepted m (and_parts _ _ running).0, refl);
      counts = λ n. grind (arith, (all.counts n), running, is_running_ended_same, is_running_ended_other, eqb-true, (sum_by_push (λ (d : Done). cond (d.number == n) 1 0) done (record { number = m; op = op_at w.requests.accepted m; outcome = record { res = res; bytes = bytes } })));
    }
accounts_then g w q s a jobs done _ called i all =
    issued_accounts g.linux w.requests _ _ jobs done (grind (arith, called)) all

pub accounts : (g : Setup) (h : History) → IsLawfulApart g h
    → Accounts (world g h).requests (jobs_in g h) (done_in g h)
accounts g [] lawful = record { sent = tt; carried = tt; counts = λ n. refl }
accounts g ((s, a) ∷ h) lawful = accounts_then g (world g h) _ s a (jobs_in g h) (done_in g h) (move_of g s a h lawful) lawful.0 (sound_of g h lawful.1).requests (accounts g h lawful.1)

-- What was sent to a place, and what was carried out of it.

-- what is of a request is all at its place
at_place : {X : Type 0} (job : X → Job) (place : Op → ℕ) (k n : ℕ) (accepted : List Sqe) (xs : List X)
    → AllByRecursion (λ x. IsOf accepted (job x)) xs
    → count_by (λ x. (job x).number == n) (filter (λ x. place (job x).op == k) xs)
    ≡ cond (place (op_at accepted n) == k) (count_by (λ x. (job x).number == n) xs) 0
at_place job place k n accepted [] all = grind arith
at_place job place k n accepted (x ∷ xs) all =
    let kept = filter (λ y. place (job y).op == k) xs in
    let here : ((job x).number == n) ≡ true → (place (job x).op == k) ≡ (place (op_at accepted n) == k) = λ same. ap (λ op. place op == k) (all.0.1 ∙ ap (op_at accepted) (eqb-true _ _ same)) in
    grind (arith, here, (at_place job place k n accepted xs all.1), (sum_by-cons (λ y. cond ((job y).number == n) 1 0) x xs), (sum_by-cons (λ y. cond ((job y).number == n) 1 0) x kept))

-- What is left.

module _ (g : Setup) (h : History) (lawful : IsLawfulApart g h) (place : Op → ℕ) (k : ℕ) (later : List Job) (all : jobs_at place k (jobs_in g h) ≡ jobs_of (done_at place k (done_in g h)) ++ later) where
  -- a job for each request of the place that runs
  left_times : (n : ℕ) → count_by (λ j. j.number == n) later ≡ cond (place (op_at (world g h).requests.accepted n) == k) (cond (is_running (world g h).requests n) 1 0) 0
  left_times n =
      let a = accounts g h lawful in
      let sent = at_place (λ j. j) place k n (world g h).requests.accepted (jobs_in g h) a.sent in
      let carried = at_place job_of place k n (world g h).requests.accepted (done_in g h) a.carried in
      let ds : List Done = done_at place k (done_in g h) in
      let whole : count_by (λ j. j.number == n) (jobs_at place k (jobs_in g h)) ≡ count_by (λ d. d.number == n) ds + count_by (λ j. j.number == n) later = ap (count_by (λ j. j.number == n)) all ∙ omega (arith, sum_by-append (λ (j : Job). cond (j.number == n) 1 0) (jobs_of ds) later, fold-map (λ (m : ℕ) (j : Job). m + cond (j.number == n) 1 0) job_of 0 ds) in
      grind (arith, sent, carried, (a.counts n), whole)

  -- what is left is the place's own, and runs
  pub left_runs : (n : ℕ) → list_any (λ j. j.number == n) later ≡ true
      → (place (op_at (world g h).requests.accepted n) ≡ k) × (is_running (world g h).requests n ≡ true)
  left_runs n some = grind (arith, (left_times n), (count_some (λ (j : Job). j.number == n) later some), eqb-true)

  -- what runs and is the place's own is left
  pub runs_left : (n : ℕ) → place (op_at (world g h).requests.accepted n) ≡ k
      → is_running (world g h).requests n ≡ true → list_any (λ j. j.number == n) later ≡ true
  runs_left n own running = grind (arith, (left_times n), (count_none (λ (j : Job). j.number == n) later), eq-eqb)

-- What is of a place, with one element more: of that place, or of another.

pub one_more_at : {X : Type 0} (at : X → ℕ) (k : ℕ) (xs : List X) (x : X) → at x ≡ k
    → filter (λ y. at y == k) (xs ++ x ∷ []) ≡ filter (λ y. at y == k) xs ++ x ∷ []
one_more_at {X} at k xs x own = filter-append (λ (y : X). at y == k) xs (x ∷ []) ∙ ap (λ b. filter (λ (y : X). at y == k) xs ++ cond b (x ∷ []) []) (eq-eqb _ _ own)

pub none_more_at : {X : Type 0} (at : X → ℕ) (k : ℕ) (xs : List X) (x : X) → at x ≢ k
    → filter (λ y. at y == k) (xs ++ x ∷ []) ≡ filter (λ y. at y == k) xs
none_more_at {X} at k xs x other = grind (arith, filter-append, cond, eqb-true, append-nil)
