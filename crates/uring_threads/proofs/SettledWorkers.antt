-- Settling the workers: all results that wait at one are taken in, one after the other, and then those of the next, while the others' wait.
use Rattle.std.proofs.Common.{◌≡◌, ℕ, ◌+◌, ◌<◌, ◌≤◌, List, [], ◌∷◌, ◌++◌, length, map, refl, sym, subst, ap, ◌∙◌, arith, append_assoc, append-nil, ap₂, ◌*◌, take, get_or, zero, suc, add-one, drop_at}
use Rattle.uring_threads.proofs.Common.{AreLanesOf, Done, Grows, HasCarried, HaveCarried, HaveSeenAll, History, IsLawfulApart, IsRight, IsSettled, IsSettledAt, IsWork, Job, JobResult, Kept, Looks, Setup, TakesAll, Wait, WorkLanes, Worker, all_waiting, finish_of, get_or-set_other, get_or_default, history, history_of_cons, jobs_of, jobs_sent, jobs_to, length-append, length-map, length-set, map-append, nil_from_length, results_held, results_of, results_received, settled_work, slice_set, take_all, waiting_at, with_taken_in, works_of}
use Rattle.uring_workers.specs.Pairings.{pairing_of}
use Rattle.uring_threads.proofs.Settling.{drain, none_waits}
use Rattle.uring_threads.proofs.TraceSteps.{longer_history}
use Rattle.uring_threads.proofs.SameLanes.{set_cases}

-- Results taken in one after the other.

pub takes_then : (a b c : Kept) (first second : List JobResult) → TakesAll a b first
    → TakesAll b c second → TakesAll a c (first ++ second)
takes_then a b c first second p q =
    record { trace = simp (q.trace, p.trace, map-append, append_assoc); setup = q.setup ∙ p.setup; room = omega arith }

-- The loop.

pub record Drains (first now : Kept) (seen known before received : List JobResult) (count : ℕ) : Type 0 where
  pub taken : List JobResult
  pub all : seen ≡ taken ++ known
  pub came : received ≡ before ++ taken
  pub recorded : TakesAll first now taken
  pub counted : length taken ≡ count
  pub left : Wait now known

pub drains_none : (first : Kept) (seen before : List JobResult) → Wait first seen
    → Drains first first seen seen before before 0
drains_none first seen before left = grind (arith, append-nil)

-- the next one
pub drains_one : (first a b : Kept) (seen known later before received now : List JobResult) (count : ℕ)
    → Drains first a seen known before received count
    → (r : JobResult) × (known ≡ r ∷ later) × (now ≡ received ++ r ∷ []) × Grows a b (finish_of r)
    → Wait b later
    → Drains first b seen later before now (count + 1)
drains_one first a b seen known later before received now count d (r, next, came, grows) left =
    let recorded = takes_then first a b d.taken (r ∷ []) d.recorded (record { trace = grows.trace; setup = grows.setup; room = omega (arith, grows.room) }) in
    grind (arith, recorded, append_assoc, length-append)

-- there is room for one more, and there is one, while there are some
pub room_left : (first a : Kept) (seen known before received : List JobResult) (count : ℕ)
    → Drains first a seen known before received count
    → length first.trace + length seen ≤ first.room → count < length seen
    → (length a.trace < a.room) × (0 < length known)
room_left first a seen known before received count d room some = grind (arith, length-append, finish_of, length-map)

-- at the end all were taken in
pub drained : (first a : Kept) (seen known before received : List JobResult) (count : ℕ)
    → Drains first a seen known before received count → length seen ≤ count
    → TakesAll first a seen × (received ≡ before ++ seen) × (known ≡ [])
drained first a seen known before received count d all_counted = grind (arith, length-append, nil_from_length, append-nil)

-- results that are taken in send no job
pub jobs_keep : (g : Setup) (workers k : ℕ) (rs : List JobResult) (h : History)
    → jobs_to g workers k (with_taken_in rs h) ≡ jobs_to g workers k h
jobs_keep g workers k [] h = refl
jobs_keep g workers k (r ∷ rs) h = ap (jobs_to g workers k) (history_of_cons (finish_of r) (map finish_of rs) h) ∙ jobs_keep g workers k rs (finish_of r ∷ h)

module _ (a b : Kept) (workers k : ℕ) (done : List Done) (untaken : List Job) (waiting : List JobResult) (lanes : WorkLanes)
    (lawful : IsLawfulApart a.setup (history a)) (carried : HasCarried a workers k lanes)
    (jobs : jobs_of done ++ untaken ≡ jobs_sent lanes) (results : results_received lanes ++ waiting ≡ results_of done) (all : TakesAll a b waiting) where
  pub settled_at : (now : WorkLanes) → jobs_sent now ≡ jobs_sent lanes
      → results_received now ≡ results_received lanes ++ waiting
      → IsSettledAt a b workers k now done untaken
  settled_at now same came =
      let one = drain a.setup workers (history a) k done untaken waiting lawful (record { jobs = jobs ∙ carried.jobs; results = ap (λ rs. rs ++ waiting) (sym carried.results) ∙ results }) in
      let later : history b ≡ with_taken_in waiting (history a) = longer_history a b (map finish_of waiting) all.trace in
      record {
        work = rw (all.setup, later) one.own;
        carried = record { jobs = rw (all.setup, later) (same ∙ carried.jobs ∙ sym (one.sent k)); results = rw (all.setup, later) (came ∙ results ∙ sym one.own.results ∙ append-nil _) };
        others = record { jobs = λ j. rw (all.setup, later) (one.sent j); results = λ j other. rw (all.setup, later) (one.others j other) };
      }

-- one worker more
waiting_more : (ls : List WorkLanes) (ws : List Worker) (d : WorkLanes) (e : Worker) (k : ℕ)
    → length ws ≡ length ls → k < length ls
    → all_waiting (take (suc k) ls) (take (suc k) ws)
    ≡ all_waiting (take k ls) (take k ws) ++ waiting_at (get_or ls k d) (get_or ws k e)
waiting_more (l ∷ ls) (w ∷ ws) d e zero many lt = append-nil (waiting_at l w)
waiting_more (l ∷ ls) (w ∷ ws) d e (suc k) many lt =
    ap (λ rs. waiting_at l w ++ rs) (waiting_more ls ws d e k (omega arith) (omega arith)) ∙ sym (append_assoc (waiting_at l w) (all_waiting (take k ls) (take k ws)) _)
waiting_more _ _ d e k many lt = absurd (omega arith)

-- The loop: the first workers are settled.

pub record SoFar (a b : Kept) (ls ms : List WorkLanes) (ws vs : List Worker) (count : ℕ) : Type 0 where
  pub many : length ms ≡ length ls
  pub many_workers : length vs ≡ length ws
  pub lanes_stay : (k : ℕ) (d : WorkLanes) → count ≤ k → get_or ms k d ≡ get_or ls k d
  pub workers_stay : (k : ℕ) (e : Worker) → count ≤ k → get_or vs k e ≡ get_or ws k e
  pub looked : (k : ℕ) (e : Worker) → Looks (get_or ws k e) (get_or vs k e)
  pub carried : (k : ℕ) (d : WorkLanes) → k < length ls → HasCarried b (length ls) k (get_or ms k d)
  pub settled : (k : ℕ) (e : Worker) → k < count
      → IsWork b.setup (length ls) (history b) k (settled_work (get_or vs k e))
  pub right : (k : ℕ) (e : Worker) → k < count → IsRight (get_or vs k e)
  pub recorded : TakesAll a b (all_waiting (take count ls) (take count ws))
  pub few : length b.trace ≤ length a.trace + 64 * count

pub none_so_far : (a : Kept) (ls : List WorkLanes) (ws : List Worker) → HaveCarried a ls
    → SoFar a a ls ls ws ws 0
none_so_far a ls ws carried = grind (arith, append-nil, get_or)

-- The next worker: its lanes are still those of these ends, and there is room for its results.
module _ (a b : Kept) (ls ms : List WorkLanes) (ws vs : List Worker) (count files : ℕ) (d : WorkLanes) (e : Worker) (s : SoFar a b ls ms ws vs count) (lt : count < length ls) (of : AreLanesOf files ls ws) where
  pub next_paired : (get_or vs count e).pairing
      ≡ pairing_of (get_or ms count d).jobs (get_or ms count d).results
  next_paired = ap (λ w. w.pairing) (s.workers_stay count e (omega arith)) ∙ of.pairing count d e lt ∙ sym (ap (λ (l : WorkLanes). pairing_of l.jobs l.results) (s.lanes_stay count d (omega arith)))

  pub next_short : results_held (get_or ms count d) ≤ 64
  next_short = subst (λ l. results_held l ≤ 64) (sym (s.lanes_stay count d (omega arith))) (of.short count d lt)

  pub next_fits : length a.trace + 64 * length ls ≤ a.room
      → length b.trace + results_held (get_or ms count d) ≤ b.room
  next_fits room = omega (arith, room, s.few, s.recorded.room, next_short, lt)

-- what settling one worker ensures
pub record SettlesOne (b c : Kept) (m now : WorkLanes) (v after : Worker) : Type 0 where
  pub trace : (waiting : List JobResult) × (results_of v.done ≡ results_received m ++ waiting)
      × TakesAll b c waiting
  pub few : length c.trace ≤ length b.trace + results_held m
  pub settled : (workers k : ℕ) → HasCarried b workers k m
      → IsSettledAt b c workers k now v.done after.seen
  pub looks : Looks v after
  pub right : IsRight after

module _ (a b c : Kept) (ls ms : List WorkLanes) (ws vs : List Worker) (count files : ℕ) (d : WorkLanes) (e : Worker) (now : WorkLanes) (after : Worker)
    (s : SoFar a b ls ms ws vs count) (lt : count < length ls) (of : AreLanesOf files ls ws) (one : SettlesOne b c (get_or ms count d) now (get_or vs count e) after) where
  pub one_more : SoFar a c ls (slice_set ms count now) ws (slice_set vs count after) (count + 1)
  one_more =
      let at_count = one.settled (length ls) count (s.carried count d lt) in
      let there : count < length vs = omega (arith, s.many_workers, of.many, lt) in
      let was : (f : Worker) → get_or vs count e ≡ get_or ws count f = λ f. s.workers_stay count e (omega arith) ∙ get_or_default ws count e f (omega (arith, of.many, lt)) in
      let waits : waiting_at (get_or ls count d) (get_or ws count e) ≡ one.trace.0 = grind (arith, drop_at) in
      record {
        many = length-set ms count now ∙ s.many;
        many_workers = length-set vs count after ∙ s.many_workers;
        lanes_stay = λ k f from. get_or-set_other ms count k now f (λ same. omega (arith, same, from)) ∙ s.lanes_stay k f (omega (arith, from));
        workers_stay = λ k f from. get_or-set_other vs count k after f (λ same. omega (arith, same, from)) ∙ s.workers_stay k f (omega (arith, from));
        looked = λ k f. set_cases (λ j w. Looks (get_or ws j f) w) vs count after k f there (rw (was f) at one.looks) (λ other. s.looked k f);
        carried = λ k f within. set_cases (HasCarried c (length ls)) ms count now k f (omega (arith, s.many, lt)) at_count.carried (λ other. grind (arith, (s.carried k f within), at_count.others));
        settled = λ k f below. set_cases (λ j w. IsWork c.setup (length ls) (history c) j (settled_work w)) vs count after k f there
            (rw (ap (λ w. w.done) one.looks.same) at_count.work) (λ other. grind (arith, (s.settled k f (omega (arith, other, below))), at_count.others));
        right = λ k f below. set_cases (λ _ w. IsRight w) vs count after k f there one.right (λ other. s.right k f (omega (arith, other, below)));
        recorded = rw (add-one, waiting_more ls ws d e count of.many lt, waits) (takes_then a b c (all_waiting (take count ls) (take count ws)) one.trace.0 s.recorded one.trace.2);
        few = omega (arith, s.few, one.few, next_short a b ls ms ws vs count files d e s lt of);
      }

-- All are settled.

pub all_recorded : (a b : Kept) (ls ms : List WorkLanes) (ws vs : List Worker)
    → SoFar a b ls ms ws vs (length ls) → length ws ≡ length ls → TakesAll a b (all_waiting ls ws)
all_recorded a b ls ms ws vs s many = subst (TakesAll a b) (ap₂ all_waiting (take_all (length ls) ls (omega arith)) (take_all (length ls) ws (omega (arith, many)))) s.recorded

pub all_settled : (a b : Kept) (ls ms : List WorkLanes) (ws vs : List Worker) (e : Worker)
    → SoFar a b ls ms ws vs (length ls) → 0 < length ls → AreLanesOf a.setup.files ls ws
    → IsLawfulApart b.setup (history b) → IsSettled b.setup (length vs) (history b) (works_of vs e)
all_settled a b ls ms ws vs e s some of lawful =
    rw (s.many_workers, of.many) (none_waits b.setup (length ls) (history b) (works_of vs e) some lawful
    (λ k lt. s.settled k e lt)
    (λ k lt. rw (ap (λ w. length w.files) (s.looked k e).same, of.have k e lt, ← s.recorded.setup) at (s.right k e lt).done)
    (λ k lt. refl))

-- Each has seen all that was sent to it.

pub all_seen : (a b : Kept) (ls ms : List WorkLanes) (ws vs : List Worker)
    → SoFar a b ls ms ws vs (length ls) → HaveCarried a ls → HaveSeenAll ls vs
all_seen a b ls ms ws vs s carried = λ k d e low.
    let taken : List JobResult = all_waiting (take (length ls) ls) (take (length ls) ws) in
    rw (s.recorded.setup, longer_history a b (map finish_of taken) s.recorded.trace, jobs_keep a.setup (length ls) k taken (history a), ← (carried k d low).jobs) at (s.settled k e low).jobs
