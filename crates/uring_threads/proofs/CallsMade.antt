-- What calls that are made one after the other leave: which are left, how the ring stands, what they append, and which rows of steps they are.
use Rattle.std.proofs.Common.{◌≡◌, ℕ, suc, ◌+◌, ◌-◌, ◌≤◌, Bool, true, List, [], ◌∷◌, ◌++◌, length, map, sum, refl, sym, ap, ◌∙◌, subst, inr, arith, append_assoc, append-nil, length-drop, ◌<◌, drop_at}
use Rattle.uring_threads.proofs.Common.{Appends, AreBegun, AreTaken, BeginsAgain, HasBegun, HaveMade, Intake, IsFirst, IsUnmoved, Item, Kept, Published, Setup, Sqe, Stands, Step, Submission, World, after_call, after_calls, all_published_as, call_row, calls_after, calls_left, calls_of, calls_row, drop_of_length-le, ends_after_item, ends_of, is_spent, items_fresh, items_keep, items_row, length-map, lt-ltb, now, refused_row, sum_by-cons, taken, waiting_in, with_items, with_items_published, with_published, words_of}
use Rattle.uring_entry.specs.Submission.{place_of}
use Rattle.uring_threads.specs.declared.calls.CallMade.TheVariants as made
use Rattle.uring_threads.proofs.TraceSteps.{appends_none, appends_then, still}
use Rattle.uring_core.specs.declared.step.Step.TheVariants as step
use Rattle.uring_threads.specs.declared.intake.Intake.TheVariants as intake
use Rattle.uring_threads.proofs.Recording.{calls_row_snoc, refused_is}
use Rattle.uring_threads.proofs.ItemSteps.{items_stand}

-- Lengths of calls.

-- they have all positions together
sum_calls : (ends : List Bool) (before : ℕ) → sum (calls_after ends before) ≡ before + length ends
unfolding calls_after
sum_calls [] before = grind (arith, (sum_by-cons (λ x. x) before []))
sum_calls (ends ∷ later) before = grind (arith, (sum_calls later 0), (sum_calls later (suc before)), (sum_by-cons (λ x. x) (suc before) (calls_after later 0)))

pub sum_left : (g : Setup) (l : Submission) (count : ℕ) → Stands l [] count
    → sum (calls_left g l) ≡ count
sum_left g l count s = grind (arith, sum_calls, length-map, length-drop)

-- none is left where no position waits
pub none_left : (g : Setup) (l : Submission) → Stands l [] 0 → calls_left g l ≡ []
unfolding calls_after
none_left g l s = ap (λ places. calls_after (ends_of g places) 0) (drop_of_length-le l.published (let q = s.waiting in omega arith))

-- a call ends after the positions of its items as it does after these
ends_published : (g : Setup) (content : ℕ → Sqe) (slot : ℕ) (items : List Item) → slot + length items ≤ g.sq
    → ends_of g (map (place_of g.sq content) (words_of slot (all_published_as items)))
    ≡ map (ends_after_item g) items
ends_published g content slot [] few = refl
ends_published g content slot (first ∷ later) few = grind (arith, (lt-ltb slot g.sq), (ends_published g content (slot + 1) later))

-- the calls that are left once items are published are those of the items
pub published_left : (g : Setup) (l : Submission) (items : List Item) → l.fresh ≡ [] → Stands l [] 0
    → length items ≤ g.sq
    → calls_left g (with_published g.sq (with_items l 0 (all_published_as items))) ≡ calls_of g items
published_left g l items fresh s few =
    let from : taken l ≡ length l.published = omega (arith, s.waiting) in
    let shown : List Published = all_published_as items in
    let words = items_fresh l 0 shown ∙ ap (λ ws. ws ++ words_of 0 shown) fresh in
    rw ((items_stand l [] 0 items s).2, items_keep l 0 shown, words, from, drop_at l.published _ _ refl, ends_published g (with_items l 0 shown).content 0 items (omega arith))

-- The world after calls.

after_snoc : (g : Setup) (w : World) (done : List ℕ) (n : ℕ)
    → after_calls g w (done ++ n ∷ []) ≡ after_call g (after_calls g w done) n
unfolding after_calls
after_snoc g w [] n = refl
after_snoc g w (first ∷ later) n = after_snoc g (after_call g w first) later n

pub calls_add_up : (g : Setup) (w : World) (done : List ℕ)
    → (after_calls g w done).submission.calls ≡ w.submission.calls ++ done
unfolding after_calls
calls_add_up g w [] = sym (append-nil w.submission.calls)
calls_add_up g w (first ∷ later) = calls_add_up g (after_call g w first) later ∙ append_assoc w.submission.calls (first ∷ []) later

-- what no call changes stays
pub kept_after : {A : Type 0} (g : Setup) (f : World → A)
    → ((w : World) (n : ℕ) → f (after_call g w n) ≡ f w) → (w : World) (done : List ℕ)
    → f (after_calls g w done) ≡ f w
unfolding after_calls
kept_after g f stays w [] = refl
kept_after g f stays w (first ∷ later) = grind (arith, (kept_after g f stays (after_call g w first) later))

-- Calls one after the other.

pub none_made : (k : Kept) (count : ℕ) → Stands (now k).submission [] count → HaveMade k k [] count
unfolding after_calls
none_made k count s = grind arith

-- One call more.
module _ (a b c : Kept) (done : List ℕ) (rest : ℕ) (h : HaveMade a b done rest) where
  -- it is the next of those that were left
  pub one_made : (n : ℕ) → now c ≡ after_call b.setup (now b) n
      → IsFirst b.setup (now b).submission (now c).submission rest (made.Taken n)
      → c.setup ≡ b.setup → HaveMade a c (done ++ n ∷ []) (rest - n)
  one_made n e first same =
      grind (arith, first, (after_snoc a.setup (now a) done n), append_assoc)

  -- or the next doesn't open
  one_refused : now c ≡ now b → c.setup ≡ b.setup → HaveMade a c done rest
  one_refused e same = grind arith

-- The rows of calls that were begun.

-- no call was made yet
pub none_recorded : (k : Kept) (left : List ℕ) → Appends k k (calls_row [] left)
unfolding calls_row
none_recorded k left = appends_none k k (still k)

module _ (a b c : Kept) (done : List ℕ) (rest : ℕ) (h : HaveMade a b done rest) (p : Appends a b (calls_row done (calls_left a.setup (now b).submission))) where
  -- one more was
  pub next_recorded : (n : ℕ) → IsFirst b.setup (now b).submission (now c).submission rest (made.Taken n)
      → Appends b c (call_row rest (made.Taken n))
      → Appends a c (calls_row (done ++ n ∷ []) (calls_left a.setup (now c).submission))
  next_recorded n first q =
      let next : calls_left a.setup (now b).submission ≡ n ∷ calls_left a.setup (now c).submission = grind (arith, first, h.setup) in
      let many : rest ≡ n + sum (calls_left a.setup (now c).submission) = omega (arith, sum_left a.setup (now b).submission rest h.stands, ap sum next, sum_by-cons (λ x. x) n (calls_left a.setup (now c).submission)) in
      rw calls_row_snoc (appends_then (rw next at p) (rw many at q))

  -- or the next didn't open
  module _ (some : 0 < rest) (e : now c ≡ now b) (q : Appends b c (step.Begin rest ∷ [])) where
    refused_recorded : Appends a c (calls_row done (calls_left a.setup (now c).submission) ++ refused_row (calls_left a.setup (now c).submission))
    refused_recorded = rw (e, refused_is _ rest (sum_left a.setup (now b).submission rest h.stands) some) (appends_then p q)

    pub begun_again : HasBegun a c (intake.Waiting rest)
    begun_again = grind (arith, (one_refused a b c done rest h e q.setup), refused_recorded)

    pub begun_spent : is_spent (now b) rest ≡ true → HasBegun a c (intake.Spent rest)
    begun_spent spent = grind (arith, (one_refused a b c done rest h e q.setup), refused_recorded)

-- or none is left
pub begun_all : (a b : Kept) (done : List ℕ) (rest : ℕ) → rest ≡ 0 → HaveMade a b done rest
    → Appends a b (calls_row done (calls_left a.setup (now b).submission)) → HasBegun a b intake.Ready
unfolding refused_row
begun_all a b done rest none h p = grind (arith, append-nil, none_left)

-- all that waited was made
all_made : (r b : Kept) (x : Intake) → x ≡ intake.Ready → (h : HasBegun r b x)
    → calls_row h.made (calls_left r.setup (now b).submission)
    ++ refused_row (calls_left r.setup (now b).submission)
    ≡ calls_row (calls_left r.setup (now r).submission) []
unfolding refused_row
all_made r b x ready h =
    let none = none_left r.setup (now b).submission (subst (λ (i : Intake). Stands (now b).submission [] (waiting_in i)) ready h.have.stands) in
    let made : h.made ≡ calls_left r.setup (now r).submission = sym (append-nil h.made) ∙ ap (λ left. h.made ++ left) (sym none) ∙ h.have.calls in
    ap (λ left. calls_row h.made left ++ refused_row left) none ∙ append-nil (calls_row h.made []) ∙ ap (λ calls. calls_row calls []) made

-- what waited was begun again
pub row_begun : (a r b : Kept) (count : ℕ) (x : Intake) → IsUnmoved a r → HasBegun r b x
    → BeginsAgain a b (intake.Waiting count) x
row_begun a r b count x u h =
    let left = calls_left r.setup (now b).submission in
    let same : calls_left r.setup (now r).submission ≡ calls_left a.setup (now a).submission = grind arith in
    record {
      steps = calls_row h.made left ++ refused_row left;
      is = inr (record { made = h.made; left = left; all = h.have.calls ∙ same; row = refl });
      all = λ ready. all_made r b x ready h ∙ ap (λ calls. calls_row calls []) same;
      row = appends_then (appends_none a r u) h.row;
    }

-- items were published, and calls begun that take them
pub row_taken : (a p b : Kept) (items : List Item) (x : Intake) → Stands (now a).submission [] 0
    → length items ≤ a.setup.sq → p.setup ≡ a.setup
    → now p ≡ with_items_published a.setup.sq (now a) (all_published_as items)
    → Appends a p (items_row 0 items ++ step.StoreTail ∷ []) → HasBegun p b x
    → (steps : List Step) × AreTaken a.setup items steps × Appends a b steps
row_taken a p b items x s few same at published h = grind (arith, published_left, append_assoc, (appends_then published h.row))
