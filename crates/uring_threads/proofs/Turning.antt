-- The parts of a turn put together: what went through the dispatcher's hands stays tied to its trace, and what they appended adds up.
use Rattle.std.proofs.Common.{add-zero, zero-add, ◌≡◌, ℕ, List, refl, ◌∙◌, arith, false, true, ap, append_assoc, count_by, ◌<◌}
use Rattle.uring_threads.proofs.Common.{Adds, AllocError, Appends, AreSameLanes, AreTies, ClosesOnce, Counts, Cqe, HasServed, HaveCarried, HoldJobs, IfOk, IfOk-from_err, IfOk-weaker, Intake, IsDelivered, IsErr, IsKernel, IsOk, IsUnmoved, KeepsAllBut, Kept, Kernel, None, OnErr, Put, RecordsIntake, RecordsTurn, Repeats, Result, Step, TakesFewResults, TakesIn, Tally, Tied, Turn, Turns, WorkLanes, delivery_row, false≢true, length, next_in, now, starts_request}
use Rattle.uring_core.specs.declared.step.Step.TheVariants as step
use Rattle.uring_threads.proofs.Carrying.{quiet_stays, done_stays, some_full}
use Rattle.uring_threads.proofs.Tying.{once_stays}
use Rattle.uring_threads.proofs.Collecting.{on_err}
use Rattle.uring_threads.proofs.Tallying.{adds_delivery, adds_finishes, adds_issues, adds_then}
use Rattle.uring_threads.proofs.Repeating.{repeats_idle, repeats_none}
use Rattle.uring_threads.proofs.SameLanes.{lanes_none, lanes_then}
use Rattle.uring_threads.proofs.TraceSteps.{appends_none, appends_then, still}

-- What was taken in: a call, or the close mark.
pub record HasTaken (old : Kernel) (b : Kept) (pulled : Put) (i : Intake) (n : ℕ) : Type 0 where
  pub taken : TakesIn old.kept b n
  pub row : RecordsIntake old.kept b old.intake old.pulled pulled
  pub ties : AreTies b pulled old.reaped i old.lanes

pub has_taken : {old : Kernel} {b : Kept} {pulled : Put} {i : Intake} {n : ℕ}
    → AreTies old.kept old.pulled old.reaped old.intake old.lanes → TakesIn old.kept b n
    → RecordsIntake old.kept b old.intake old.pulled pulled → Tied old.kept.setup (now b) pulled i
    → (ClosesOnce old.kept old.intake → ClosesOnce b i)
    → (now b).completions ≡ (now old.kept).completions → HasTaken old b pulled i n
has_taken {old} {b} t p row tied once same = grind (arith, (quiet_stays old.kept b _ p.adds refl refl))

-- Results were taken in, or requests issued, as the lanes of the workers carried them.
pub record HasMoved (kind : ℕ → Step) (a b : Kept) (ls ms : List WorkLanes) (count : ℕ) : Type 0 where
  pub repeats : Repeats a b kind count
  pub carried : HaveCarried b ms
  pub lanes : AreSameLanes ls ms

moves_none : (kind : ℕ → Step) (a : Kept) (ls : List WorkLanes) → HaveCarried a ls
    → HasMoved kind a a ls ls 0
moves_none kind a ls carried =
    record { repeats = repeats_none kind (still a); carried = carried; lanes = lanes_none ls }

-- What was delivered, so many completions.
pub record HasDelivered (a b : Kept) (n : ℕ) (reaped : List Cqe) : Type 0 where
  pub row : Appends a b (delivery_row n)
  pub idle : n ≡ 0 → IsUnmoved a b
  pub keeps : KeepsAllBut (now a) (now b)
  pub delivered : IsDelivered (now b).completions reaped

pub delivers : {a b : Kept} {n : ℕ} {reaped : List Cqe} → Appends a b (delivery_row n)
    → (n ≡ 0 → IsUnmoved a b) → KeepsAllBut (now a) (now b)
    → IsDelivered (now b).completions reaped → HasDelivered a b n reaped
delivers row idle keeps delivered = assumption

pub delivers_none : {a b : Kept} {reaped : List Cqe} → IsUnmoved a b → KeepsAllBut (now a) (now b)
    → IsDelivered (now b).completions reaped → HasDelivered a b 0 reaped
delivers_none {a} {b} u keeps delivered =
    delivers (appends_none a b u) (λ none. u) keeps delivered

-- What the parts of a turn have done, up to where it ends: if it returns Ok, it is this turn.
pub record Goes (old : Kernel) (kept : Kept) (pulled : Put) (reaped : List Cqe) (i : Intake) (lanes : List WorkLanes) (turn : Turn) : Type 0 where
  pub ties : AreTies kept pulled reaped i lanes
  pub counts : Counts old.kept kept turn
  pub rows : (answer : Result Turn AllocError) → IfOk answer (λ made. made ≡ turn)
      → RecordsTurn old.kept kept old.intake old.pulled pulled answer
  pub few : TakesFewResults (length old.lanes) old.kept kept
  pub same : AreSameLanes old.lanes lanes

module _ {old : Kernel} {b c : Kept} {pulled : Put} {i : Intake} {ms : List WorkLanes} {n f : ℕ}
    (t : HasTaken old b pulled i n) (few : TakesFewResults (length old.lanes) b c) (p : HasMoved step.Finish b c old.lanes ms f) where
  module _ {d : Kept} {ns : List WorkLanes} {s : ℕ} (q : HasMoved step.Issue c d ms ns s) where
    pub goes : {e : Kept} {reaped : List Cqe} {k : ℕ} → HasDelivered d e k reaped
        → Goes old e pulled reaped i ns (record { popped = n; issued = s; finished = f; delivered = k })
    goes {e} {reaped} {k} r =
        let finishes = adds_finishes p.repeats in
        let issues = adds_issues q.repeats in
        let reaps = adds_delivery k r.row in
        let once = once_stays c d _ i issues refl (once_stays b c _ i finishes refl t.ties.once) in
        let posted : AreTies d pulled old.reaped i ns = grind (arith, t.ties, p.repeats.posts, q.repeats.posts, p.repeats.row.setup, q.repeats.row.setup, q.carried, once) in
        let last = adds_then issues reaps in
        let all = adds_then t.taken.adds (adds_then finishes last) in
        let adds : Adds old.kept e (record { items = n; issues = s; finishes = f; reaps = k; calls = t.taken.calls; closes = t.taken.closes }) = record { steps = all.steps; appends = all.appends; tally = all.tally ∙ simp (add-zero, zero-add) } in
        record {
          ties = grind (arith, posted, r.row.setup, (quiet_stays d e _ reaps refl refl), (once_stays d e _ i reaps refl posted.once));
          counts = grind (arith, adds, (repeats_idle p.repeats), (repeats_idle q.repeats), r.idle, t.taken.idle);
          rows = λ answer told. record {
            again = t.row.again;
            pulled = t.row.pulled;
            finished = p.repeats.numbers;
            issued = q.repeats.numbers;
            delivered = k;
            is_again = t.row.is_again;
            may_pull = t.row.may_pull;
            is_pulled = t.row.is_pulled;
            row = simp append_assoc (rw append_assoc at (appends_then t.row.row (appends_then p.repeats.row (appends_then q.repeats.row r.row))));
            told = IfOk-weaker answer _ _ (λ made is. rw is (record { finishes = p.repeats.many; issues = q.repeats.many; reaps = refl })) told;
          };
          few = λ k. omega (arith, few k, ap length (done_stays old.kept b _ t.taken.adds refl (length old.lanes) k), ap length (done_stays c e _ last refl (length old.lanes) k));
          same = lanes_then old.lanes ms ns p.lanes q.lanes;
        }

    -- or up to an earlier end
    pub goes_issued : Goes old d pulled old.reaped i ns (record { popped = n; issued = s; finished = f; delivered = 0 })
    goes_issued = goes (delivers_none (still d) (grind arith) (grind (arith, t.ties.delivered, p.repeats.posts, q.repeats.posts)))

  pub goes_collected : Goes old c pulled old.reaped i ms (record { popped = n; issued = 0; finished = f; delivered = 0 })
  goes_collected = goes_issued (moves_none step.Issue c ms p.carried)

pub goes_taken : {old : Kernel} {b : Kept} {pulled : Put} {i : Intake} {n : ℕ}
    → HasTaken old b pulled i n
    → Goes old b pulled old.reaped i old.lanes (record { popped = n; issued = 0; finished = 0; delivered = 0 })
goes_taken {old} {b} t = goes_collected t (λ k. omega arith) (moves_none step.Finish b old.lanes t.ties.carried)

-- The turn that they make, with its answer.

pub turned : {granted : Type 0} {old new : Kernel} {pulled : Put} {reaped : List Cqe} {turn : Turn} {answer : Result Turn AllocError}
    → IsKernel old → Goes old new.kept pulled reaped new.intake new.lanes turn
    → new.pulled ≡ pulled → new.reaped ≡ reaped → new.pairing ≡ old.pairing → new.sizes ≡ old.sizes
    → IfOk answer (λ made. made ≡ turn)
    → IfOk answer (HasServed old new) → OnErr answer (new.dropped ≡ old.dropped)
    → (granted → IsOk answer) → Turns granted old new answer
turned {old = old} {new} {turn = turn} {answer = answer} is went puts gives pairing sizes told served not_stored ok =
    let g : Goes old new.kept new.pulled new.reaped new.intake new.lanes turn = rw (puts, gives) went in
    let setup = g.counts.adds.appends.setup in
    let hold : HoldJobs new.lanes = grind arith in
    let kernel : IsKernel new = grind arith in
    let next : IfOk answer (λ made. count_by starts_request new.kept.trace < 64 → next_in new.kept ≡ None) = grind (arith, some_full, g.ties.carried) in
    let err : OnErr answer ((t : Tally) × Adds old.kept new.kept t) = on_err answer (_, g.counts.adds) in
    assumption (kernel, next, err, g.rows answer told)

-- if memory was refused
pub refused : {granted : Type 0} {old new : Kernel} {pulled : Put} {reaped : List Cqe} {turn : Turn} {answer : Result Turn AllocError}
    → IsErr answer → IsKernel old → Goes old new.kept pulled reaped new.intake new.lanes turn
    → new.pulled ≡ pulled → new.reaped ≡ reaped → new.pairing ≡ old.pairing → new.sizes ≡ old.sizes
    → new.dropped ≡ old.dropped → (granted → false ≡ true) → Turns granted old new answer
refused {answer = answer} err is g puts gives pairing sizes dropped never =
    turned is g puts gives pairing sizes (IfOk-from_err answer _ err) (IfOk-from_err answer _ err) (on_err answer dropped) (λ all. absurd (false≢true (never all)))

-- The dispatcher's end where nothing happened but that its trace may have more memory.
pub kernel_unmoved : (k : Kernel) (kept : Kept) → IsUnmoved k.kept kept → IsKernel k
    → IsKernel (record k { kept = kept })
kernel_unmoved k kept u is = grind arith

-- what can be issued next stays where only the completion ring changes
pub same_next : (a b : Kept) → KeepsAllBut (now a) (now b) → b.setup ≡ a.setup → next_in b ≡ next_in a
same_next a b keeps same = grind arith
