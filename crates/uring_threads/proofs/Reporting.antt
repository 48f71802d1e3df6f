-- What is reported once all ends are settled, from what ties them to the trace.
use Rattle.std.proofs.Common.{◌≡◌, ◌↔◌, ℕ, zero, suc, ◌+◌, ◌<◌, ◌≤◌, ◌==◌, Bool, Some, true, List, [], ◌∷◌, ◌++◌, length, map, take, drop, get_or, cond, refl, sym, subst, ap, ◌∙◌, arith, inl, inr, append_assoc, append-nil, length-drop, add-zero, drop_at, take_at, flat_map}
use Rattle.uring_ports.specs.AppEnd.{AppEnd}
use Rattle.uring_threads.proofs.Common.{AreItems, AreSettled, AreTogether, BeginsCalls, ClosesOnlyAllTaken, Completions, Cqe, DeliversReaped, Event, FinishesAll, HasOneClose, HaveLooked, HaveSeenAll, History, IsItem, IsKernel, IsLawful, IsSameKernel, Item, Job, JobResult, Kept, Kernel, LeavesCompletions, LeavesItems, LeavesRunning, OnlyPosts, PublishesItems, Report, Setup, Sizes, TakesAll, WorkLanes, Worker, World, all_published_as, all_untaken, all_waiting, calls_left, closes_ring, finish_of, flat_map-append, get_or_from_slice_get, has_job, history, history_of_cons, is_running, items_of_calls, job_of, jobs_of, left_by, lengths_of, length-append, length-map, list_any, map-append, now, or_cases, or_right, reverse-append, slice_get, slice_get_within, take_all, take_more, unreaped, untaken_at, waiting_in, with_end_of, with_taken_in, world}
use Rattle.uring_core.specs.declared.answer.Answer.TheVariants as answer
use Rattle.uring_laws.specs.Laws.{ReapedBeginPosted, in_ring, in_overflow}
use Rattle.std.proofs.lemmas.List.Folds.{fold-map, fold_stays, list_any-append}
use Rattle.uring_threads.proofs.CallsMade.{none_left}
use Rattle.uring_threads.proofs.CallLengths.{lengths_append}
use Rattle.uring_threads.proofs.Tying.{closes_append, all_first}
use Rattle.uring_threads.proofs.Posting.{posts_then, posts_only}
use Rattle.uring_threads.proofs.SameEnds.{together_same}
use Rattle.uring_threads.proofs.TraceSteps.{longer_history}

-- Finishes leave the rings, but for what is posted.

finishes_post : (g : Setup) (rs : List JobResult) (h : History)
    → OnlyPosts (world g h) (world g (with_taken_in rs h))
    × (length (unreaped (world g (with_taken_in rs h)).completions)
    ≤ length (unreaped (world g h).completions) + length rs)
finishes_post g [] h = (grind arith, omega arith)
finishes_post g (r ∷ rs) h =
    let next = finishes_post g rs (finish_of r ∷ h) in
    let w : World = world g h in
    let one : length (unreaped (with_end_of g w r.number r.outcome.res r.outcome.bytes)) ≤ length (unreaped w.completions) + 1 = grind (arith, length-drop, length-append) in
    rw (history_of_cons (finish_of r) (map finish_of rs) h)
    (posts_then _ _ _ (posts_only g (world g h) r.number (answer.Ended r.outcome.res r.outcome.bytes)).1 next.0, omega (arith, next.1, one))

-- What runs.

-- some job of all is some job of one of them
any_of : (p : Job → Bool) (ls : List WorkLanes) (ws : List Worker) (d : WorkLanes) (e : Worker)
    → length ws ≡ length ls → list_any p (all_untaken ls ws) ≡ true
    → (k : ℕ) × (k < length ws) × (list_any p (untaken_at (get_or ls k d) (get_or ws k e)) ≡ true)
any_of p (l ∷ ls) (w ∷ ws) d e many some =
    elim (or_cases _ _ (sym (list_any-append p (untaken_at l w) (all_untaken ls ws)) ∙ some)) [
      | inl here ↦ (0, omega arith, here)
      | inr later ↦ let one = any_of p ls ws d e (omega (arith, many)) later in (suc one.0, omega (arith, one.1), one.2)
    ]
any_of p _ _ d e many some = grind arith

of_any : (p : Job → Bool) (ls : List WorkLanes) (ws : List Worker) (d : WorkLanes) (e : Worker) (k : ℕ)
    → length ws ≡ length ls → k < length ws
    → list_any p (untaken_at (get_or ls k d) (get_or ws k e)) ≡ true
    → list_any p (all_untaken ls ws) ≡ true
of_any p (l ∷ ls) (w ∷ ws) d e zero many low some = grind (arith, list_any-append)
of_any p (l ∷ ls) (w ∷ ws) d e (suc k) many low some = list_any-append p (untaken_at l w) (all_untaken ls ws) ∙ or_right _ _ (of_any p ls ws d e k (omega (arith, many)) (omega (arith, low)) some)
of_any p _ _ d e k many low some = absurd (omega (arith, many, low))

pub all_run : (k : Kept) (ls : List WorkLanes) (ws vs : List Worker) → 0 < length ls
    → AreSettled k vs → HaveLooked ws vs → HaveSeenAll ls vs → length ws ≡ length ls → (n : ℕ)
    → (is_running (now k).requests n ≡ true) ↔ (has_job (all_untaken ls ws) n ≡ true)
all_run k (l ∷ ls) (w ∷ ws) vs some settled looked seen many n =
    let p : Job → Bool = λ job. job.number == n in
    let both = (settled w).running n in
    let same : (j : ℕ) → j < length (w ∷ ws) → untaken_at (get_or (l ∷ ls) j l) (get_or (w ∷ ws) j w) ≡ (get_or vs j w).seen =
    λ j low. grind (arith, (get_or vs j w), (drop_at (jobs_of (get_or vs j w).done) (get_or vs j w).seen _ (length-map (get_or vs j w).done job_of))) in
    let here = λ (j : ℕ) (low : j < length (w ∷ ws)). ap (list_any p) (same j low) in (
      λ runs.
          let one = both.0 runs in
          let low : one.0 < length (w ∷ ws) = omega (arith, one.1, looked.many) in
          of_any p (l ∷ ls) (w ∷ ws) l w one.0 many low (here one.0 low ∙ one.2),
      λ job. let one = any_of p (l ∷ ls) (w ∷ ws) l w many job in both.1 (one.0, omega (arith, one.1, looked.many), sym (here one.0 one.1) ∙ one.2),
    )
all_run k _ _ vs some settled looked seen many n = absurd (omega (arith, some, many))

-- What waits.

-- there is room for the next one that waits
pub room_for_next : {X : Type 0} (xs : List X) (i : ℕ) (x : X) (len first room : ℕ)
    → slice_get xs i ≡ Some x → len ≡ i → length xs ≤ first → first ≤ room → len < room
room_for_next xs i x len first room here same fits more =
    omega (arith, slice_get_within xs i x here, same, fits, more)

-- and then one more is listed
pub one_more_listed : {X : Type 0} (xs items later : List X) (i : ℕ) (x : X)
    → slice_get xs i ≡ Some x → items ≡ take i xs → later ≡ items ++ x ∷ []
    → later ≡ take (i + 1) xs
one_more_listed xs items later i x here so_far more =
    more ∙ ap (λ ys. ys ++ x ∷ []) so_far ∙ ap (λ y. take i xs ++ y ∷ []) (sym (get_or_from_slice_get xs i x x here)) ∙ sym (take_more xs i x (slice_get_within xs i x here))

-- in the end all are
pub all_listed : (size : ℕ) (l : Completions) (items : List Cqe) (k : ℕ) → ReapedBeginPosted size l
    → items ≡ take k (unreaped l) → length l.posted ≤ length l.reaped + k
    → l.reaped ++ items ≡ l.posted
all_listed size l items k law so_far many =
    let rest : unreaped l ≡ in_ring l ++ in_overflow l = ap (drop (length l.reaped)) law.in_order ∙ drop_at l.reaped (in_ring l ++ in_overflow l) _ refl in
    ap (λ xs. l.reaped ++ xs) (so_far ∙ take_all k (unreaped l) (omega (arith, length-drop (length l.reaped) l.posted, many)) ∙ rest) ∙ sym law.in_order

pub few_unreaped : (a b : Kept) (rs : List JobResult) (most : ℕ) → TakesAll a b rs
    → length b.trace ≤ length a.trace + most
    → length (unreaped (now b).completions) ≤ length (unreaped (now a).completions) + most
few_unreaped a b rs most all few =
    grind (arith, (finishes_post a.setup rs (history a)).1, (longer_history a b (map finish_of rs) all.trace), length-append, length-map)

-- a list after which others stand is taken whole
pub take_whole : {X : Type 0} (n : ℕ) (xs others : List X) → length xs ≡ n
    → take n (xs ++ others) ≡ xs
take_whole n xs others same = take_at xs others n same

-- The history is lawful.

pub settled_lawful : (k : Kept) (workers : List Worker) → 0 < length workers → AreSettled k workers
    → IsLawful k.setup (history k)
settled_lawful k [] some settled = absurd (omega (arith, some))
settled_lawful k (w ∷ ws) some settled = (settled w).lawful

-- All of it, of ends in hand.

pub record TellsEnds (app : AppEnd) (kernel : Kernel) (workers : List Worker) (r : Report) : Type 0 where
  pub running : LeavesRunning kernel.lanes workers r
  pub items : PublishesItems app.submitted r
  pub calls : BeginsCalls app.submitted r
  pub once : HasOneClose r
  pub closed : ClosesOnlyAllTaken app.submitted r
  pub reaped : DeliversReaped app.received r

pub tells_ends : (app : AppEnd) (kernel same : Kernel) (workers : List Worker) (kept : Kept) (lanes : List WorkLanes) (unsent : List Item) (undelivered : List Cqe) (r : Report)
    → AreTogether app kernel workers → IsSameKernel kernel same → IsKernel same → kept ≡ same.kept
    → lanes ≡ same.lanes
    → LeavesItems app.submitted same.pulled unsent
    → LeavesCompletions same.reaped app.received undelivered
    → AreItems app.sizes.sq (items_of_calls app.submitted.calls)
    → r.setup ≡ kept.setup → FinishesAll kept.trace lanes workers r → LeavesRunning lanes workers r
    → (r.unsent ≡ unsent) × (r.undelivered ≡ undelivered) → TellsEnds app kernel workers r
tells_ends app kernel same workers kept lanes unsent undelivered r t s is keeps these items completions good setup trace running rests =
    let goes_on : FinishesAll same.kept.trace lanes workers r = rw keeps at trace in
    let of : r.setup ≡ same.kept.setup = rw keeps at setup in
    let results : List JobResult = all_waiting lanes workers in
    let posts : OnlyPosts (now same.kept) (left_by r) = rw (of, goes_on, reverse-append) (finishes_post same.kept.setup results (history same.kept)).0 in
    let left : LeavesItems app.submitted same.pulled r.unsent = subst (LeavesItems app.submitted same.pulled) (sym rests.0) items in
    let size : app.sizes.sq ≡ same.kept.setup.sq = ap (λ (z : Sizes). z.sq) (sym (together_same app kernel same workers s t).sizes) ∙ is.sq in
    let tied = is.ties.tied in
    let no_close = fold-map (λ (n : ℕ) (e : Event). n + cond (closes_ring e) 1 0) finish_of 0 results ∙ fold_stays (λ (n : ℕ) (r : JobResult). n + 0) 0 (λ r. refl) results in
    let more = calls_left same.kept.setup (now same.kept).submission in
    let later = lengths_of same.kept.setup left.rest in
    let whole : all_published_as (items_of_calls app.submitted.calls) ≡ all_published_as (items_of_calls same.pulled.calls) ++ all_published_as (items_of_calls left.rest) =
    rw (← left.calls) (simp (flat_map-append, map-append)) in
    record {
      running = subst (λ ls. LeavesRunning ls workers r) (these ∙ ap (λ (k : Kernel). k.lanes) s.others) running;
      items = rw (posts.submission, left.items, tied.published (all_first (IsItem same.kept.setup.sq) _ _ (rw (size, whole) at good)), whole);
      calls = (more ++ later, rw (posts.submission, of, ← left.calls, lengths_append, ← tied.calls) (sym (append_assoc (now same.kept).submission.calls more later)));
      once = rw (posts.is_closed, tied.closed, ← tied.shut, goes_on, closes_append, no_close, add-zero) is.ties.once;
      closed = λ closed.
          let pulled_closed : same.pulled.closed ≡ true = sym tied.closed ∙ sym posts.is_closed ∙ closed in
          let none : waiting_in same.intake ≡ 0 = grind (arith, tied.shut, pulled_closed) in
          let stands = rw none at tied.stands in
          let last = left.closed pulled_closed in
          let calls = rw (last.1, append-nil) at left.calls in
          record {
            closed = last.0;
            unsent = rw last.1 at left.items;
            calls = rw (posts.submission, of, ← calls, ← tied.calls, none_left same.kept.setup (now same.kept).submission stands, append-nil);
            taken = rw posts.submission (omega (arith, stands.waiting));
          };
      reaped = sym (subst (LeavesCompletions same.reaped app.received) (sym rests.1) completions) ∙ sym is.ties.delivered.reaped ∙ sym posts.reaped;
    }
