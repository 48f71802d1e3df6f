-- What ties the dispatcher's lists to its trace: what was pulled stays tied to the submission ring, and the trace has one Close once the close mark was pulled, and none before.
use Rattle.std.proofs.Common.{◌≡◌, ℕ, ◌+◌, ◌<◌, ◌≤◌, true, false, List, [], ◌∷◌, ◌++◌, length, refl, sym, subst, ap, ◌∙◌, arith, append_assoc, append-nil, count_by, cond, zero-add, take_at, drop_at}
use Rattle.uring_threads.proofs.Common.{Adds, All, Answer, ClosesOnce, Event, Grows, HasBegun, Intake, IsItem, IsUnmoved, Item, Kept, None, Published, Pulls, Put, Setup, Stands, Submission, TakesIn, Tally, Tied, World, all_published_as, awaits_memory, close_answer, closes_ring, closing, flat_map-append, if◌then◌else◌, is_close, is_shut, is_some, items_of_calls, items_published, length-map, map-append, now, published_as, sum_by-append, tail_publishes, with_call, with_close, with_items_published}
use Rattle.uring_ports.specs.declared.pulled.Pulled.{Pulled}
use Rattle.uring_threads.proofs.CallsMade.{none_left, published_left, calls_add_up, kept_after}
use Rattle.uring_threads.proofs.CallLengths.{lengths_more}
use Rattle.uring_core.specs.declared.step.Step.TheVariants as step
use Rattle.uring_core.specs.declared.answer.Answer.TheVariants as answer
use Rattle.uring_threads.proofs.ItemSteps.{items_stand}
use Rattle.uring_threads.proofs.TraceSteps.{grown, unmoved_now}
use Rattle.uring_threads.proofs.Tallying.{adds_count, adds_none, adds_then}
use Rattle.std.proofs.lemmas.List.Elements.{All-drop, All-take}
use Rattle.uring_threads.specs.declared.intake.Intake.TheVariants as intake

-- calls were begun that take what waited
pub tied_begun : (a b : Kept) (put : Put) (count : ℕ) (x : Intake)
    → Tied a.setup (now a) put (intake.Waiting count) → HasBegun a b x
    → Tied a.setup (now b) put x
tied_begun a b put count x t h =
    let published = kept_after a.setup (λ (v : World). v.submission.published) (λ v n. refl) (now a) h.made in
    let closed = kept_after a.setup (λ (v : World). v.is_closed) (λ v n. refl) (now a) h.made in
    grind (arith, calls_add_up, append_assoc)

-- what holds of all of two lists holds of all of the first
pub all_first : {X : Type 0} (P : X → Type 0) (xs ys : List X) → All P (xs ++ ys) → All P xs
all_first P xs ys all = rw (take_at xs ys (length xs) refl) at (All-take P (length xs) (xs ++ ys) all)

-- a call was pulled and published, and waits to be begun
pub tied_published : (g : Setup) (w : World) (put : Put) (items : List Item)
    → Tied g w put intake.Ready → put.closed ≡ false → 0 < length items → length items ≤ g.sq
    → Tied g (with_items_published g.sq w (all_published_as items)) (with_call put items) (intake.Waiting (length items))
tied_published g w put items t not_closed some few =
    let l : Submission = w.submission in
    let shown : List Published = all_published_as items in
    let stand = items_stand l [] 0 items t.stands in
    let whole : all_published_as (items_of_calls (put.calls ++ items ∷ [])) ≡ all_published_as (items_of_calls put.calls) ++ shown = simp (flat_map-append, map-append, append-nil) in
    let before_is = rw (none_left g l t.stands, append-nil) at t.calls in
    record {
      published = λ good.
          let before : List Published = all_published_as (items_of_calls put.calls) in
          let all = rw whole at good in
          rw (whole, items_published l g.sq shown t.stands.fresh (omega (arith, few, length-map items published_as)) (rw (drop_at before shown (length before) refl) at (All-drop (IsItem g.sq) (length before) (before ++ shown) all)), t.published (all_first (IsItem g.sq) before shown all));
      calls = rw (published_left g l items t.stands.fresh t.stands few, stand.2, before_is) (sym (lengths_more g put.calls items some));
      stands = rw (stand.1, zero-add) at (tail_publishes g _ _ stand.0);
      spent = tt;
      closed = t.closed;
      shut = sym not_closed;
    }

-- What a row of the intake appends.

pub takes_nothing : (a b : Kept) → IsUnmoved a b → TakesIn a b 0
takes_nothing a b u = record { calls = 0; closes = 0; adds = adds_none a b u; idle = λ none. u.trace }

-- one after the other
pub takes_then : (a b c : Kept) (n m k : ℕ) → TakesIn a b n → TakesIn b c m → n + m ≡ k
    → TakesIn a c k
takes_then a b c n m k p q sums =
    let adds = adds_then p.adds q.adds in
    grind (arith, adds)

-- A row of the intake where nothing happened before but that room was asked for.

pub tied_still : (a r : Kept) (put : Put) (i : Intake) → IsUnmoved a r
    → Tied a.setup (now a) put i → Tied a.setup (now r) put i
tied_still a r put i u t = subst (λ w. Tied a.setup w put i) (sym (unmoved_now a r u)) t

pub takes_after : (a r b : Kept) (n : ℕ) → IsUnmoved a r → TakesIn r b n → TakesIn a b n
takes_after a r b n u p = takes_then a r b 0 n n (takes_nothing a r u) p (omega arith)

pub completions_after : (a r b : Kept) → IsUnmoved a r → (now b).completions ≡ (now r).completions
    → (now b).completions ≡ (now a).completions
completions_after a r b u same = same ∙ ap (λ (w : World). w.completions) (unmoved_now a r u)

-- what waits, as it stands then
pub call_waits : (a r : Kept) (put : Put) (count : ℕ) (i : Intake) → IsUnmoved a r
    → i ≡ intake.Waiting count → Tied a.setup (now a) put i
    → ((now r).is_closed ≡ false) × Stands (now r).submission [] count
call_waits a r put count i u waits t = grind arith

-- and once it was begun again
pub tied_again : (a r b : Kept) (put : Put) (count : ℕ) (i x : Intake) → IsUnmoved a r
    → i ≡ intake.Waiting count → HasBegun r b x
    → Tied a.setup (now a) put i → Tied a.setup (now b) put x
tied_again a r b put count i x u waits h t =
    rw u.setup at (tied_begun r b put count x (subst (λ (g : Setup). Tied g (now r) put (intake.Waiting count)) (sym u.setup) (tied_still a r put (intake.Waiting count) u (rw waits at t))) h)

pub begun_completions : (a b : Kept) (x : Intake) → HasBegun a b x
    → (now b).completions ≡ (now a).completions
begun_completions a b x h = ap (λ (w : World). w.completions) h.have.world ∙ kept_after a.setup (λ (w : World). w.completions) (λ w n. refl) (now a) h.made

-- what was pulled
pub pulled_at : (a r : Kept) (before after : Put) (size : ℕ) (x : Pulled) (items taken : List Item) (i : Intake)
    → IsUnmoved a r → size ≡ a.setup.sq → taken ≡ items → Tied a.setup (now a) before i
    → Pulls size before x items after
    → Tied r.setup (now r) before i × Pulls r.setup.sq before x taken after
pulled_at a r before after size x items taken i u sizes same t p = grind arith

-- What was pulled is taken.

pub tied_taken : (a p b : Kept) (before after : Put) (items : List Item) (i x : Intake)
    → i ≡ intake.Ready → p.setup ≡ a.setup
    → now p ≡ with_items_published a.setup.sq (now a) (all_published_as items) → HasBegun p b x
    → Tied a.setup (now a) before i
    → (0 < length items) × (length items ≤ a.setup.sq) × (before.closed ≡ false)
    × (after ≡ with_call before items)
    → Tied a.setup (now b) after x
tied_taken a p b before after items i x ready same at h t pulled =
    let published = tied_published a.setup (now a) before items (rw ready at t) pulled.2 pulled.0 pulled.1 in
    rw pulled.3 (rw same at (tied_begun p b (with_call before items) (length items) x (rw (at, same) published) h))

-- the close mark, of a ring that is in no call
pub closed_world : (a b : Kept) (x : Answer) → Grows a b (step.Close, x) → x ≡ close_answer (now a)
    → (now a).submission.call ≡ None → now b ≡ record (now a) { is_closed = true }
closed_world a b x g called between = grown a b step.Close x g ∙ ap (closing (now a)) (called ∙ ap (λ c. if is_some c then answer.InCall else answer.Shut) between)

pub tied_shut : (a b : Kept) (x : Answer) (before after : Put) (i : Intake) → i ≡ intake.Ready
    → Grows a b (step.Close, x) → x ≡ close_answer (now a) → Tied a.setup (now a) before i
    → after ≡ with_close before → Tied a.setup (now b) after intake.Closed
tied_shut a b x before after i ready g called tied pulled =
    let t = rw ready at tied in
    rw (closed_world a b x g called t.stands.call, pulled) (record { published = t.published; calls = t.calls; stands = t.stands; spent = tt; closed = refl; shut = refl })

-- closes of two lists of events
pub closes_append : (es fs : List Event)
    → count_by closes_ring (es ++ fs) ≡ count_by closes_ring es + count_by closes_ring fs
closes_append es fs = sum_by-append (λ e. cond (closes_ring e) 1 0) es fs

-- nothing was appended, or nothing that closes
pub once_unmoved : (a b : Kept) (i : Intake) → IsUnmoved a b → ClosesOnce a i → ClosesOnce b i
once_unmoved a b i u once = ap (count_by closes_ring) u.trace ∙ once

pub once_stays : (a b : Kept) (t : Tally) (i : Intake) → Adds a b t → t.closes ≡ 0
    → ClosesOnce a i → ClosesOnce b i
once_stays a b t i p none once = grind (arith, closes_append, (adds_count is_close p))

-- calls were begun
pub once_begun : (a b : Kept) (t : Tally) (i x : Intake) → Adds a b t → t.closes ≡ 0
    → is_shut x ≡ false → (ClosesOnce a i → ClosesOnce a intake.Ready) → ClosesOnce a i
    → ClosesOnce b x
once_begun a b t i x p none not_shut ready once = grind (arith, (once_stays a b t intake.Ready p none (ready once)))

-- the close mark was pulled
pub once_shut : (a b : Kept) (x : Answer) → Grows a b (step.Close, x) → ClosesOnce a intake.Ready
    → ClosesOnce b intake.Closed
once_shut a b x g once = ap (count_by closes_ring) g.trace ∙ closes_append a.trace ((step.Close, x) ∷ []) ∙ ap (λ n. n + 1) once

-- an intake in any state but that of waiting
pub waits_not : (i : Intake) → ((count : ℕ) → i ≡ intake.Waiting count → ⊥)
    → awaits_memory i ≡ false
waits_not i never = grind arith
