-- What the steps of calls, and the moves between them, make of a world.
-- By the laws of single steps, with the answers that are called for, as in the proofs of moves.
use Rattle.std.proofs.Common.{◌≡◌, ◌⊎◌, ◌+◌, ◌≤◌, ℕ, zero, suc, false, List, [], ◌∷◌, ◌++◌, length, refl, sym, subst, ap, ◌∙◌, arith}
use Rattle.uring_histories.proofs.Common.{Between, Cqe, GoesThrough, History, IsPlain, MadeAfter, Over, Published, Setup, ShowsOnly, Stands, Step, Submission, World, after_call, bad_word, beginning, call_steps, filling, happens, in_call, item_steps, length_push, map-append, published_items, staging, take_steps, taking, with_entry, with_filled, with_item, with_items, with_published, with_staged, world}
use Rattle.uring_core.specs.StepAnswers.{CalledForApart, OrAgain}
use Rattle.uring_core.specs.declared.step.Step.TheVariants as step
use Rattle.uring_core.specs.declared.answer.Answer.{Answer}
use Rattle.uring_core.specs.declared.answer.Answer.TheVariants as answer
use Rattle.uring_laws.proofs.Standing.{slot_filled, word_staged, tail_publishes, items_published, call_opens, next_taken, call_closes}
use Rattle.uring_outcomes.specs.CallOutcomes.{items_in}
use Rattle.uring_outcomes.proofs.ItemLists.{items_more}

split_made : (g : Setup) (h after : History) (ss ts : List Step) → MadeAfter g h (ss ++ ts) after
    → (mid : History) × MadeAfter g h ss mid × MadeAfter g mid ts after
split_made g h after [] ts made = (h, refl, made)
split_made g h after (s ∷ ss) ts made = grind (arith, (split_made g ((s, made.0) ∷ h) after ss ts made.3))

-- The items.

abbrev in_world : World → ℕ → List Published → World
in_world w slot items = record w { submission = with_items w.submission slot items }

record ItemsIn (w v : World) (words : List ℕ) (slot : ℕ) (items : List Published) : Type 0 where
  is : v ≡ in_world w slot items
  staged_then : List ℕ
  many : length staged_then ≡ length words + length items
  stands : Stands (with_items w.submission slot items) staged_then 0

items_go_in : (g : Setup) (items : List Published) (h after : History) (w : World) (words : List ℕ) (slot : ℕ)
    → world g h ≡ w → Stands w.submission words 0 → slot + length items ≤ g.sq
    → length words + length items ≤ g.sq → MadeAfter g h (item_steps slot items) after
    → ItemsIn w (world g after) words slot items
items_go_in g [] h after w words slot at stands low few made = grind arith
items_go_in g (bad_word word ∷ later) h after w words slot at stands low few made =
    let a : Answer = made.0 in
    let one = word_staged g w words word a stands (omega arith) (subst (λ v. CalledForApart g v (step.Index word) a) at made.1) in
    let w' : World = record w { submission = with_staged w.submission word } in
    let r = items_go_in g later ((step.Index word, a) ∷ h) after w' (words ++ word ∷ []) (slot + 1) (ap (λ v. staging v word a) at ∙ ap (staging w word) one.0) one.1 (omega arith) (omega (arith, length_push words word)) made.3 in
    record {
      is = r.is;
      staged_then = r.staged_then;
      many = omega (arith, r.many, length_push words word);
      stands = r.stands;
    }
items_go_in g (with_entry entry ∷ later) h after w words slot at stands low few made =
    let a : Answer = made.0 in
    let b : Answer = made.3.0 in
    let first = slot_filled g w words slot entry a stands (omega arith) (subst (λ v. CalledForApart g v (step.Fill slot entry) a) at made.1) in
    let w1 : World = record w { submission = with_filled w.submission slot entry } in
    let at1 : world g ((step.Fill slot entry, a) ∷ h) ≡ w1 = ap (λ v. filling v slot entry a) at ∙ ap (filling w slot entry) first.0 in
    let second = word_staged g w1 words slot b first.1 (omega arith) (subst (λ v. CalledForApart g v (step.Index slot) b) at1 made.3.1) in
    let w2 : World = record w1 { submission = with_staged w1.submission slot } in
    let at2 : world g ((step.Index slot, b) ∷ (step.Fill slot entry, a) ∷ h) ≡ w2 = ap (λ v. staging v slot b) at1 ∙ ap (staging w1 slot) second.0 in
    let r = items_go_in g later ((step.Index slot, b) ∷ (step.Fill slot entry, a) ∷ h) after w2 (words ++ slot ∷ []) (slot + 1) at2 second.1 (omega arith) (omega (arith, length_push words slot)) made.3.3 in
    record {
      is = r.is;
      staged_then = r.staged_then;
      many = omega (arith, r.many, length_push words slot);
      stands = r.stands;
    }

-- The positions.

takes_in : (g : Setup) → g.stops ≡ false → g.linux ≡ false → (w : World) (count k done : ℕ) (h after : History)
    → Stands w.submission [] count → done + k ≡ count → world g h ≡ in_call w count done
    → MadeAfter g h (take_steps k) after → world g after ≡ in_call w count count
takes_in g goes manual w count zero done h after s many at made = grind arith
takes_in g goes manual w count (suc k) done h after s many at made =
    let a : Answer = made.0 in
    let one = next_taken g goes manual w count count done a s (omega arith) (omega arith) (subst (λ v. CalledForApart g v step.Take a) at made.1) in
    takes_in g goes manual w count k (done + 1) ((step.Take, a) ∷ h) after s (omega arith) (ap (λ v. taking g v a) at ∙ one.1) made.3

-- A whole call.

opens_so : (a : Answer) (n : ℕ) (P : Type 0) → IsPlain a → OrAgain (answer.Call n) a ⊎ ((a ≡ answer.Spent) × P)
    → a ≡ answer.Call n
opens_so a n P plain opened = grind arith

calls_keep : (l : Submission) (slot : ℕ) (items : List Published)
    → (with_items l slot items).calls ≡ l.calls
calls_keep l slot [] = refl
calls_keep l slot (with_entry entry ∷ later) =
    calls_keep (with_item l slot (with_entry entry)) (slot + 1) later
calls_keep l slot (bad_word word ∷ later) =
    calls_keep (with_item l slot (bad_word word)) (slot + 1) later

-- the world in which these items are published
abbrev with_call_published : Setup → World → List Published → World
with_call_published g w items = record w { submission = with_published g.sq (with_items w.submission 0 items) }

after_it : (g : Setup) (w : World) (calls : List (List Published)) (call : List Published) → Between w calls
    → GoesThrough g.sq call
    → Stands (after_call g (with_call_published g w call) (length call)).submission [] 0
    → Between (after_call g (with_call_published g w call) (length call)) (calls ++ call ∷ [])
after_it g w calls call b goes_in stands =
    let w2 : World = with_call_published g w call in
    let now : published_items w2.submission ≡ items_in calls ++ call = items_published w.submission g.sq call b.stands.fresh goes_in.few goes_in.are_items ∙ ap (λ xs. xs ++ call) b.published in
    record {
      stands = stands;
      is_open = b.is_open;
      published = now ∙ sym (items_more calls call);
      cut = ap (λ xs. xs ++ length call ∷ []) (calls_keep w.submission 0 call ∙ b.cut) ∙ sym (map-append length calls (call ∷ []));
      none_reaped = b.none_reaped;
    }

pub call_made : (g : Setup) → g.stops ≡ false → g.linux ≡ false → (h after : History) (calls : List (List Published)) (call : List Published)
    → Between (world g h) calls → GoesThrough g.sq call → MadeAfter g h (call_steps call) after
    → Between (world g after) (calls ++ call ∷ [])
call_made g goes manual h after calls call b goes_in made =
    let w : World = world g h in
    let n : ℕ = length call in
    let few : n ≤ g.sq = goes_in.few in
    let s1 = split_made g h after (item_steps 0 call) ((step.StoreTail ∷ []) ++ ((step.Begin n ∷ []) ++ (take_steps n ++ ((step.End ∷ []) ++ (step.LoadHead ∷ []))))) made in
    let inside = items_go_in g call h s1.0 w [] 0 refl b.stands (omega arith) (omega arith) s1.1 in
    let w1 : World = in_world w 0 call in
    let w2 : World = with_call_published g w call in
    let a2 : Answer = s1.2.0 in
    let h2 : History = (step.StoreTail, a2) ∷ s1.0 in
    let at2 : world g h2 ≡ w2 = ap (λ (v : World). record v { submission = with_published g.sq v.submission }) inside.is in
    let many : length inside.staged_then ≡ n = omega (arith, inside.many) in
    let waits : Stands w2.submission [] n = subst (λ k. Stands w2.submission [] k) many (tail_publishes g w1.submission inside.staged_then inside.stands) in
    let made2 = s1.2.3 in
    let a3 : Answer = made2.0 in
    let opened = call_opens g w2 n n a3 waits b.is_open (omega arith) (subst (λ v. CalledForApart g v (step.Begin n) a3) at2 made2.1) in
    let is3 : a3 ≡ answer.Call n = opens_so a3 n _ made2.2 opened.0 in
    let h3 : History = (step.Begin n, a3) ∷ h2 in
    let at3 : world g h3 ≡ in_call w2 n 0 = ap (λ v. beginning v n a3) at2 ∙ (ap (beginning w2 n) is3 ∙ opened.1) in
    let s4 = split_made g h3 after (take_steps n) ((step.End ∷ []) ++ (step.LoadHead ∷ [])) made2.3 in
    let took : world g s4.0 ≡ in_call w2 n n = takes_in g goes manual w2 n n 0 h3 s4.0 waits (omega arith) at3 s4.1 in
    let a5 : Answer = s4.2.0 in
    let a6 : Answer = s4.2.3.0 in
    let closed = call_closes g w2 n n 0 a5 a6 waits (omega arith) (subst (λ v. CalledForApart g v step.End a5) took s4.2.1) in
    let at6 : world g after ≡ after_call g w2 n = ap (world g) s4.2.3.3 ∙ (ap (λ v. happens g (happens g v step.End a5) step.LoadHead a6) took ∙ closed.0) in
    subst (λ v. Between v (calls ++ call ∷ [])) (sym at6) (after_it g w calls call b goes_in closed.1)

-- An issue and a finish.

pub issue_between : (g : Setup) (w : World) (n : ℕ) (a : Answer) (calls : List (List Published))
    → Between w calls → Between (happens g w (step.Issue n) a) calls
issue_between g w n a calls b = grind arith

pub finish_between : (g : Setup) (w : World) (n : ℕ) (a : Answer) (calls : List (List Published))
    → Between w calls → Between (happens g w (step.Finish n) a) calls
finish_between g w n a calls b = grind arith

-- Steps that only show completions.

pub over_still : (g : Setup) (w : World) (s : Step) (a : Answer) (calls : List (List Published)) (posted : List Cqe)
    → ShowsOnly s → Over w calls posted → Over (happens g w s a) calls posted
over_still g w s a calls posted shows o = grind arith
