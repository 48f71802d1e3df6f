-- What is counted of the rows that the dispatcher appends.
use Rattle.std.proofs.Common.{◌≡◌, ℕ, suc, zero, ◌+◌, Bool, List, [], ◌∷◌, ◌++◌, length, map, take, count_by, cond, replicate, sum, refl, ap, ap₂, ◌∙◌, arith, zero-add, add-zero}
use Rattle.uring_threads.proofs.Common.{Adds, Appends, Event, IsUnmoved, Item, Kept, Repeats, Step, TakesIn, Tally, both, calls_counted, calls_row, delivery_row, finishes_counted, issues_counted, item_row, items_counted, items_row, none_counted, reaps_counted, refused_row, step_of, sum_by-append, sum_by-cons, tally_of}
use Rattle.uring_core.specs.declared.step.Step.TheVariants as step
use Rattle.uring_ports.specs.declared.item.Item.TheVariants as item
use Rattle.uring_threads.proofs.TraceSteps.{appends_idle, appends_none, appends_then}

-- Events are counted by their steps.

counted : (p : Step → Bool) (events : List Event)
    → count_by (λ e. p (step_of e)) events ≡ count_by p (map step_of events)
counted p [] = refl
counted p (e ∷ later) =
    grind (arith, (counted p later), (sum_by-cons (λ x. cond (p (step_of x)) 1 0) e later), (sum_by-cons (λ s. cond (p s) 1 0) (step_of e) (map step_of later)))

pub adds_count : {a b : Kept} {t : Tally} (p : Step → Bool) (q : Adds a b t)
    → count_by (λ e. p (step_of e)) q.appends.events ≡ count_by p q.steps
adds_count p q = counted p q.appends.events ∙ ap (count_by p) q.appends.row

-- One row after the other.

both_none : (t : Tally) → both t none_counted ≡ t
both_none t = simp add-zero

joined : (xs ys : List Step) {t u : Tally} → tally_of xs ≡ t → tally_of ys ≡ u
    → tally_of (xs ++ ys) ≡ both t u
joined xs ys {t} {u} p q =
    let all : tally_of (xs ++ ys) ≡ both (tally_of xs) (tally_of ys) = simp sum_by-append in
    all ∙ ap₂ both p q

pub adds_none : (a b : Kept) → IsUnmoved a b → Adds a b none_counted
adds_none a b u = record { steps = []; appends = appends_none a b u; tally = refl }

pub adds_then : {a b c : Kept} {t u : Tally} → Adds a b t → Adds b c u → Adds a c (both t u)
adds_then p q = record { steps = p.steps ++ q.steps; appends = appends_then p.appends q.appends; tally = joined p.steps q.steps p.tally q.tally }

-- The same step, many times.

takes : (n : ℕ) → tally_of (replicate n step.Take) ≡ none_counted
takes zero = refl
takes (suc n) = joined (step.Take ∷ []) (replicate n step.Take) refl (takes n)

reaps : (n : ℕ) → tally_of (replicate n step.Reap) ≡ reaps_counted n
reaps zero = refl
reaps (suc n) = joined (step.Reap ∷ []) (replicate n step.Reap) refl (reaps n) ∙ ap reaps_counted (omega arith)

finishes : (ns : List ℕ) → tally_of (map step.Finish ns) ≡ finishes_counted (length ns)
finishes [] = refl
finishes (n ∷ ns) = joined (step.Finish n ∷ []) (map step.Finish ns) refl (finishes ns) ∙ ap finishes_counted (omega arith)

issues : (ns : List ℕ) → tally_of (map step.Issue ns) ≡ issues_counted (length ns)
issues [] = refl
issues (n ∷ ns) = joined (step.Issue n ∷ []) (map step.Issue ns) refl (issues ns) ∙ ap issues_counted (omega arith)

pub adds_finishes : {a b : Kept} {n : ℕ} → Repeats a b step.Finish n → Adds a b (finishes_counted n)
adds_finishes p = record { steps = _; appends = p.row; tally = finishes p.numbers ∙ ap finishes_counted p.many }

pub adds_issues : {a b : Kept} {n : ℕ} → Repeats a b step.Issue n → Adds a b (issues_counted n)
adds_issues p = record { steps = _; appends = p.row; tally = issues p.numbers ∙ ap issues_counted p.many }

-- Completions that are delivered.

delivers : (n : ℕ) → tally_of (delivery_row n) ≡ reaps_counted n
delivers zero = refl
delivers (suc n) = joined (step.Flush ∷ step.LoadCqTail ∷ []) (replicate (suc n) step.Reap ++ step.StoreCqHead ∷ []) refl (joined (replicate (suc n) step.Reap) (step.StoreCqHead ∷ []) (reaps (suc n)) refl) ∙ simp (add-zero, zero-add)

pub adds_delivery : {a b : Kept} (n : ℕ) → Appends a b (delivery_row n) → Adds a b (reaps_counted n)
adds_delivery n p = record { steps = _; appends = p; tally = delivers n }

-- Items that are published.

puts : (slot : ℕ) (x : Item) → tally_of (item_row slot x) ≡ items_counted 1
puts slot (item.Entry entry) = refl
puts slot (item.Bad word) = refl

puts_all : (slot : ℕ) (items : List Item) → tally_of (items_row slot items) ≡ items_counted (length items)
puts_all slot [] = refl
puts_all slot (x ∷ later) = joined (item_row slot x) (items_row (slot + 1) later) (puts slot x) (puts_all (slot + 1) later) ∙ ap items_counted (omega arith)

pub adds_items : {a b : Kept} (items : List Item) → Appends a b (items_row 0 items ++ step.StoreTail ∷ [])
    → Adds a b (items_counted (length items))
adds_items items p = record { steps = _; appends = p; tally = joined (items_row 0 items) (step.StoreTail ∷ []) (puts_all 0 items) refl ∙ both_none (items_counted (length items)) }

-- Calls that are begun.

begins : (made left : List ℕ) → tally_of (calls_row made left) ≡ calls_counted (length made)
unfolding calls_row
begins [] left = refl
begins (count ∷ later) left =
    let rest = (step.End ∷ step.LoadHead ∷ []) ++ calls_row later left in
    joined (step.Begin (count + (sum later + sum left)) ∷ []) (replicate count step.Take ++ rest) refl (joined (replicate count step.Take) rest (takes count) (joined (step.End ∷ step.LoadHead ∷ []) (calls_row later left) refl (begins later left))) ∙ ap calls_counted (omega arith)

refuses : (left : List ℕ) → tally_of (refused_row left) ≡ calls_counted (length (take 1 left))
unfolding refused_row
refuses [] = refl
refuses (count ∷ later) = refl

none_begun : (made left : List ℕ) → length made + length (take 1 left) ≡ 0
    → calls_row made left ++ refused_row left ≡ []
unfolding calls_row refused_row
none_begun [] [] none = refl
none_begun (count ∷ later) left none = absurd (omega (arith, none))
none_begun [] (count ∷ later) none = absurd (omega (arith, none))

pub adds_begun : {a b : Kept} (made left : List ℕ) → Appends a b (calls_row made left ++ refused_row left)
    → Adds a b (calls_counted (length made + length (take 1 left)))
adds_begun made left p = record { steps = _; appends = p; tally = joined (calls_row made left) (refused_row left) (begins made left) (refuses left) }

pub takes_begun : {a b : Kept} (made left : List ℕ) → Appends a b (calls_row made left ++ refused_row left)
    → TakesIn a b 0
takes_begun {a} {b} made left p = record {
  calls = length made + length (take 1 left);
  closes = 0;
  adds = adds_begun made left p;
  idle = λ none. appends_idle (rw (none_begun made left (omega (arith, none))) at p);
}
