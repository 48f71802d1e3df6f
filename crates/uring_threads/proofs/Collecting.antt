-- What is sent and taken in, as a result is taken in: the operation is the last of its worker's, and all else stays; and how many results of each worker a turn takes in.
use Rattle.std.proofs.Common.{◌≡◌, ℕ, ◌+◌, ◌<◌, arith, true, List, [], ◌∷◌, ◌++◌, length, refl, sym, ap, ◌∙◌, inl, inr, ◌*◌, ◌≤◌, get_or, add-zero}
use Rattle.std.specs.Result.{OnOk}
use Rattle.uring_threads.proofs.Common.{Answer, AreSameLanes, AreTakenIn, CanBeTaken, Collects, CollectsSeen, Done, Grows, HasCarried, HaveCarried, IsFinished, IsLawfulApart, IsTakenIn, IsUnmoved, JobResult, Kept, NextStays, NoneComes, OnErr, OnlyReceives, Repeats, Result, TakesFewResults, TakesSeen, Wait, WorkLanes, cases_lt, done_by_worker, done_in, entry_of, finish_of, history, is_running, is_running_ended_other, is_running_ended_same, length-set, length_push, map-append, most_results, now, operation_of, place_of, results_of, results_received, results_seen, results_taken_in, set}
use mathlib.Core.List.{IsPrefix}
use Rattle.uring_core.specs.declared.step.Step.TheVariants as step
use Rattle.uring_core.specs.declared.answer.Answer.TheVariants as answer
use Rattle.uring_threads.proofs.Sent.{one_more_at, none_more_at}
use Rattle.uring_threads.proofs.Repeating.{repeats_none, repeats_then, repeats_one}
use Rattle.uring_threads.proofs.Settling.{results_run}
use Rattle.uring_threads.proofs.TraceSteps.{grown, grown_history}
use Rattle.uring_threads.proofs.SameLanes.{lanes_then, lanes_set, set_cases}
use Rattle.uring_threads.proofs.Posting.{posts_only}

-- a result of a request that runs is taken in by the Finish that the trace has then
pub takes_in : (a b : Kept) (r : JobResult) (x : Answer) → is_running (now a).requests r.number ≡ true
    → IsFinished (now a) r.number r.outcome x → Grows a b (step.Finish r.number, x)
    → Grows a b (finish_of r)
takes_in a b r x runs finished grows = grind arith

-- what was seen first is what is popped
pub first_known : {known later : List JobResult} {seen popped : JobResult}
    → IsPrefix (seen ∷ []) known → known ≡ popped ∷ later → seen ≡ popped
first_known {known} {later} {seen} {popped} first all = grind arith

-- no result is seen
pub none_stays : (kept : Kept) (workers place : ℕ) (seen : List JobResult) → length seen ≡ 0
    → NextStays kept workers place seen
none_stays kept workers place seen none = grind arith

-- Several results.

-- none, and one more
pub collects_none : (workers place : ℕ) {a b : Kept} → IsUnmoved a b → Collects a b workers place 0
collects_none workers place {a} {b} u = grind (arith, repeats_none)

pub collects_first : {a b : Kept} {workers place : ℕ} (r : JobResult) → CanBeTaken a workers place r.number
    → Grows a b (finish_of r) → Collects a b workers place 1
collects_first {a} {b} {workers} {place} r can grows =
    let end : Done = record { number = r.number; op = operation_of (entry_of (now a).requests r.number); outcome = r.outcome } in
    let at : Done → ℕ = λ d. place_of workers a.setup.files d.op in
    let longer = grown_history a b (finish_of r) grows in
    record {
      repeats = repeats_one step.Finish r.number (answer.Ended r.outcome.res r.outcome.bytes) grows refl (posts_only a.setup (now a) r.number (answer.Ended r.outcome.res r.outcome.bytes)).1;
      own = rw (grows.setup, longer, one_more_at at place (done_in a.setup (history a)) end can.own) (length_push _ end);
      others = record {
        jobs = λ k. rw (grows.setup, longer);
        results = λ k other. rw (grows.setup, longer) (none_more_at at k (done_in a.setup (history a)) end (λ same. other (sym same ∙ can.own)));
      };
      none_comes = λ k number left. grind (arith, (grown a b (step.Finish r.number) (answer.Ended r.outcome.res r.outcome.bytes) grows), grows.setup, left, is_running_ended_same, is_running_ended_other);
    }

-- and it is the last of those that the trace has taken in
pub taken_in_more : {a u b : Kept} {workers place : ℕ} {before after : List JobResult} (r : JobResult)
    → CanBeTaken u workers place r.number → IsUnmoved a u → Grows u b (finish_of r)
    → AreTakenIn a workers place before → after ≡ before ++ r ∷ [] → AreTakenIn b workers place after
taken_in_more {a} {u} {b} {workers} {place} {before} {after} r can unmoved grows taken more =
    let end : Done = record { number = r.number; op = operation_of (entry_of (now u).requests r.number); outcome = r.outcome } in
    let at : Done → ℕ = λ d. place_of workers u.setup.files d.op in
    let known : before ≡ results_of (done_by_worker u.setup workers place (history u)) = cc in
    rw (grows.setup, grown_history u b (finish_of r) grows, one_more_at at place (done_in u.setup (history u)) end can.own, map-append, more, known)

pub collects_then : {a b c : Kept} {workers place n m : ℕ} → Collects a b workers place n
    → Collects b c workers place m → Collects a c workers place (n + m)
collects_then {a} {b} {c} {workers} {place} {n} {m} p q = record {
  repeats = repeats_then p.repeats q.repeats;
  own = omega (arith, p.own, q.own);
  others = record { jobs = λ k. q.others.jobs k ∙ p.others.jobs k; results = λ k other. q.others.results k other ∙ p.others.results k other };
  none_comes = λ k number can. p.none_comes k number (q.none_comes k number can);
}

-- and room was asked for
pub collects_still : {a b c : Kept} {workers place n : ℕ} → Collects a b workers place n
    → IsUnmoved b c → Collects a c workers place n
collects_still {workers = workers} {place} p u = rw add-zero at (collects_then p (collects_none workers place u))

-- what holds anyway holds of a result that is Ok
pub on_ok : {X E P : Type 0} (result : Result X E) → P → OnOk result P
on_ok result p = grind arith

-- and of an error
pub on_err : {X E P : Type 0} (result : Result X E) → P → OnErr result P
on_err result p = grind arith

-- All that wait.

-- the first result that waits can be taken in, and then the next one is the first
pub first_waits : (a : Kept) (r : JobResult) (later : List JobResult)
    → IsLawfulApart a.setup (history a) → (w : Wait a (r ∷ later))
    → IsTakenIn a.setup w.0 (history a) w.1 (record { done = w.2; untaken = w.3; waiting = later }) r
first_waits a r later lawful (workers, k, done, untaken, work) =
    results_run a.setup workers (history a) k done untaken r later lawful work

pub next_waits : (a b : Kept) (r : JobResult) (later : List JobResult)
    → IsLawfulApart a.setup (history a) → Wait a (r ∷ later) → Grows a b (finish_of r)
    → Wait b later
next_waits a b r later lawful w grows = grind (arith, (grown_history a b (finish_of r) grows), (first_waits a r later lawful w))

-- Results of the workers before this place were taken in, few of each, and of the others none.
pub record CollectsBefore (first : List WorkLanes) (a : Kept) (place count : ℕ) (b : Kept) (lanes : List WorkLanes) : Type 0 where
  pub most : count ≤ 64 * place
  pub repeats : Repeats a b step.Finish count
  pub carried : HaveCarried b lanes
  pub same : AreSameLanes first lanes
  pub before : (k : ℕ) → k < place
      → results_taken_in (length first) k b ≤ results_taken_in (length first) k a + most_results
  pub others : (k : ℕ) → place ≤ k
      → results_taken_in (length first) k b ≡ results_taken_in (length first) k a

pub collects_nothing : (first : List WorkLanes) (a : Kept) → HaveCarried a first
    → CollectsBefore first a 0 0 a first
collects_nothing first a carried = grind (arith, repeats_none)

-- and so many of the worker at it
pub collects_at : {first : List WorkLanes} {a : Kept} {place count n : ℕ} {b c : Kept} {lanes : List WorkLanes} (y d : WorkLanes)
    → CollectsBefore first a place count b lanes → place < length lanes
    → Collects b c (length first) place n → n ≤ most_results → OnlyReceives (get_or lanes place d) y
    → AreTakenIn c (length first) place (results_received y)
    → CollectsBefore first a (place + 1) (count + n) c (set lanes place y)
collects_at {first} {a} {place} {count} {n} {b} {c} {lanes} y d p low q most receives taken =
    let had = rw p.same.many at p.carried in
    record {
      most = omega (arith, p.most, most);
      repeats = repeats_then p.repeats q.repeats;
      carried = λ k e within. rw (length-set lanes place y, p.same.many) (set_cases (HasCarried c (length first)) lanes place y k e low
          (record { jobs = rw receives.jobs ((had place d (rw p.same.many at low)).jobs ∙ sym (q.others.jobs place)); results = taken })
          (λ other. grind (arith, (had k e (rw (length-set lanes place y, p.same.many) at within)), q.others)));
      same = lanes_then first lanes (set lanes place y) p.same (lanes_set lanes place y d low receives);
      before = grind arith;
      others = λ k high. ap length (q.others.results k (λ here. absurd (omega (arith, here, high)))) ∙ p.others k (omega (arith, high));
    }

-- of all
pub few_in_all : {first lanes : List WorkLanes} {a b : Kept} {place count : ℕ}
    → CollectsBefore first a place count b lanes → TakesFewResults (length first) a b
few_in_all {place = place} p = λ k. elim (cases_lt k place) [ inl low ↦ p.before k low | inr high ↦ (let none = p.others k high in omega (arith, none)) ]

-- Of the workers before this place, what was seen was taken in.

-- what couldn't be taken in next still can't
next_stays : (a b : Kept) (workers k : ℕ) (seen : List JobResult) → NoneComes a b workers
    → NextStays a workers k seen → NextStays b workers k seen
next_stays a b workers k seen none stays = grind (arith, (λ (r : JobResult). none k r.number))

-- of each of them, fewer were taken in only if no other result is seen, or the next can't be taken in
abbrev pub SeenBefore : ℕ → ℕ → Kept → Kept → List WorkLanes → Type 0
SeenBefore workers place a b lanes = (k : ℕ) → k < place
    → results_taken_in workers k b < results_taken_in workers k a + most_results → (d : WorkLanes)
    → NextStays b workers k (results_seen (get_or lanes k d))

-- and of the one at it
pub seen_at : {first : List WorkLanes} {a : Kept} {place count n : ℕ} {b c : Kept} {lanes : List WorkLanes} (y : WorkLanes)
    → CollectsBefore first a place count b lanes → place < length lanes
    → CollectsSeen b c (length first) place n (results_seen y)
    → SeenBefore (length first) place a b lanes
    → SeenBefore (length first) (place + 1) a c (set lanes place y)
seen_at {first} {a} {place} {count} {n} {b} {c} {lanes} y p within q seen = λ k low fewer d.
    set_cases (λ j (l : WorkLanes). results_taken_in (length first) j c < results_taken_in (length first) j a + most_results → NextStays c (length first) j (results_seen l)) lanes place y k d within
    (λ few. q.rest (omega (arith, few, p.others place (omega arith), q.collected.own)))
    (λ other few. next_stays b c (length first) k _ q.collected.none_comes (seen k (omega (arith, low, other)) (omega (arith, few, ap length (q.collected.others.results k other))) d))
    fewer

-- of all
pub seen_in_all : {first lanes : List WorkLanes} {place : ℕ} (a b : Kept) → AreSameLanes first lanes
    → place ≡ length first → SeenBefore (length first) place a b lanes → TakesSeen a b lanes
seen_in_all {first} {lanes} a b same end seen = grind arith
