-- Which rows of steps are appended.
use Rattle.std.proofs.Common.{◌≡◌, ℕ, ◌+◌, ◌<◌, ◌⊎◌, inl, List, [], ◌∷◌, ◌++◌, take, length, get_or, replicate, sum, zero, suc, refl, ap, ◌∙◌, arith, append_assoc, append-nil}
use Rattle.uring_threads.proofs.Common.{Answer, Appends, BeginsAgain, Grows, Intake, IsAgain, IsPulled, IsTaken, IsUnmoved, Item, Kept, MayPull, Pulls, Put, RecordsIntake, Setup, Step, Submission, call_row, calls_row, delivery_row, item_row, items_row, length-take-le, now, refused_row, sum_by-cons, sum_by_push, take_more}
use Rattle.uring_core.specs.declared.step.Step.TheVariants as step
use Rattle.uring_ports.specs.declared.pulled.Pulled.{Pulled}
use Rattle.uring_ports.specs.declared.pulled.Pulled.TheVariants as pulled
use Rattle.uring_threads.specs.declared.calls.CallMade.TheVariants as made
use Rattle.uring_threads.proofs.TraceSteps.{appends_none, appends_one, appends_then}

items_row_snoc : (slot : ℕ) (items : List Item) (item : Item)
    → items_row slot (items ++ item ∷ [])
    ≡ items_row slot items ++ item_row (slot + length items) item
items_row_snoc slot [] item = append-nil (item_row slot item) ∙ ap (λ s. item_row s item) (omega arith)
items_row_snoc slot (first ∷ later) item = grind (arith, (items_row_snoc (slot + 1) later item))

-- the next item of a call
pub items_recorded : (a b c : Kept) (items : List Item) (i slot : ℕ) (item : Item) → slot ≡ i
    → i < length items → item ≡ get_or items i item → Appends a b (items_row 0 (take i items))
    → Appends b c (item_row slot item) → Appends a c (items_row 0 (take (i + 1) items))
items_recorded a b c items i slot item at within is p q =
    let many : slot ≡ 0 + length (take i items) = omega (arith, at, length-take-le i items (omega arith)) in
    rw (take_more items i item within, ← is, items_row_snoc, ← many) (appends_then p q)

-- one call more was made
pub calls_row_snoc : (done : List ℕ) (n : ℕ) (left : List ℕ)
    → calls_row (done ++ n ∷ []) left ≡ calls_row done (n ∷ left) ++ call_row (n + sum left) (made.Taken n)
unfolding calls_row
calls_row_snoc [] n left = ap (λ k. step.Begin k ∷ replicate n step.Take ++ step.End ∷ step.LoadHead ∷ []) (omega arith)
calls_row_snoc (first ∷ more) n left =
    let many : sum (more ++ n ∷ []) + sum left ≡ sum more + sum (n ∷ left) = omega (arith, sum_by_push (λ x. x) more n, sum_by-cons (λ x. x) n left) in
    rw (many, calls_row_snoc more n left, append_assoc)

-- the next call that is left is begun and doesn't open
pub refused_is : (calls : List ℕ) (count : ℕ) → sum calls ≡ count → 0 < count
    → refused_row calls ≡ step.Begin count ∷ []
unfolding refused_row
refused_is calls count many some = grind (arith, (sum_by-cons (λ x. x)))

-- completions that were delivered, one or more
pub delivery_recorded : (a b c d e f : Kept) (n : ℕ) (x y z : Answer) → 0 < n → IsUnmoved a b
    → Grows b c (step.Flush, x)
    → Grows c d (step.LoadCqTail, y)
    → Appends d e (replicate n step.Reap)
    → Grows e f (step.StoreCqHead, z)
    → Appends a f (delivery_row n)
delivery_recorded a b c d e f zero x y z some u g h p k = absurd (omega (arith, some))
delivery_recorded a b c d e f (suc n) x y z some u g h p k =
    appends_then (appends_none a b u) (appends_then (appends_one b c _ x g refl) (appends_then (appends_one c d _ y h refl) (appends_then p (appends_one e f _ z k refl))))

-- nothing was begun again, and nothing was pulled
pub none_again : (g : Setup) (l : Submission) (i : Intake) → IsAgain g l i []
none_again g l i = grind arith

pub none_pulled : (g : Setup) (put : Put) → IsPulled g put put []
none_pulled g put = (pulled.Nothing, [], (refl, refl), refl)

-- what was pulled was taken
pub pulled_as : (from : ℕ) (g : Setup) (before after : Put) (what : Pulled) (items taken : List Item) (steps : List Step)
    → from ≡ g.sq → taken ≡ items → Pulls from before what items after → IsTaken g what taken steps
    → IsPulled g before after steps
pulled_as from g before after what items taken steps sizes same p t = grind arith

-- what waited, and what was pulled after it
pub intake_recorded : (a b c : Kept) (i : Intake) (before after : Put) (xs ys : List Step)
    → IsAgain a.setup (now a).submission i xs
    → (after ≡ before) ⊎ MayPull a.setup (now a).submission i xs → IsPulled a.setup before after ys
    → Appends a b xs → Appends b c ys → RecordsIntake a c i before after
intake_recorded a b c i before after xs ys again may pulled p q =
    record { again = xs; pulled = ys; is_again = again; may_pull = may; is_pulled = pulled; row = appends_then p q }

-- what waited, and nothing after it
pub again_recorded : (a b : Kept) (i j : Intake) (put : Put) → BeginsAgain a b i j
    → RecordsIntake a b i put put
again_recorded a b i j put r =
    record { again = r.steps; pulled = []; is_again = r.is; may_pull = inl refl; is_pulled = none_pulled a.setup put; row = rw append-nil r.row }
