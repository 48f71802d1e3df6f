-- A ring that stands empty takes a whole call: from a world, the world after the call, which some lawful history makes.
-- By the laws of single steps, with the answers that are called for: first the items, then the tail, Begin, each Take, End and LoadHead.
use Rattle.std.proofs.Common.{◌≡◌, ℕ, ◌+◌, ◌≤◌, Bool, false, zero, suc, List, [], ◌∷◌, ◌++◌, length, Option, nat_lt, if◌then◌else◌, refl, sym, subst, ap, ◌∙◌, inl, arith}
use Rattle.uring_outcomes.proofs.Common.{Answer, FileContents, Move, OrAgain, Place, Published, Setup, Submission, World, bad_word, begin_answer, call_length, end_answer, fill_answer, happens, index_answer, is_spent, le-ltb, length_push, place_answer, staged, take_answer, taken, with_entry, with_event, with_published}
use Rattle.uring_entry.specs.IndexWords.{word_of}
use Rattle.uring_core.specs.declared.step.Step.TheVariants as step
use Rattle.uring_core.specs.declared.answer.Answer.TheVariants as answer
use Rattle.uring_laws.specs.Standing.{Stands, with_items, in_call, after_call}
use Rattle.uring_laws.proofs.Standing.{slot_filled, word_staged, tail_publishes, call_opens, next_taken, call_closes}
use Rattle.uring_outcomes.specs.declared.move_of_calls.Move.TheVariants as move
use Rattle.uring_outcomes.proofs.Reaching.{Reaches, step_on, as_well}

-- The items.

-- the world with these items, each in its own slot from this one on
abbrev in_world : World → ℕ → List Published → World
in_world w slot items = record w { submission = with_items w.submission slot items }

record ItemsIn (g : Setup) (w : World) (files : List FileContents) (moves : List Move) (words : List ℕ) (slot : ℕ) (items : List Published) : Type 0 where
  reaches : Reaches g (in_world w slot items) files moves
  staged_then : List ℕ
  many : length staged_then ≡ length words + length items
  stands : Stands (with_items w.submission slot items) staged_then 0

items_go_in : {moves : List Move} (g : Setup) (items : List Published) (w : World) (files : List FileContents) (words : List ℕ) (slot : ℕ)
    → Reaches g w files moves → Stands w.submission words 0 → slot + length items ≤ g.sq
    → length words + length items ≤ g.sq → ItemsIn g w files moves words slot items
items_go_in g [] w files words slot there stands low few = grind arith
items_go_in g (bad_word word ∷ later) w files words slot there stands low few =
    let one = word_staged g w words word (index_answer g w) stands (omega arith) refl in
    let w' : World = happens g w (step.Index word) answer.Staged in
    let rest = items_go_in g later w' files (words ++ word ∷ []) (slot + 1) (step_on g w files (step.Index word) answer.Staged there tt (sym one.0) (λ e. cc)) one.1 (omega arith) (omega (arith, length_push words word)) in
    record {
      reaches = rest.reaches;
      staged_then = rest.staged_then;
      many = omega (arith, rest.many, length_push words word);
      stands = rest.stands;
    }
items_go_in {moves} g (with_entry entry ∷ later) w files words slot there stands low few =
    let first = slot_filled g w words slot entry (fill_answer g w slot) stands (omega arith) refl in
    let w' : World = happens g w (step.Fill slot entry) answer.Filled in
    let filled : Reaches g w' files moves = step_on g w files (step.Fill slot entry) answer.Filled there tt (sym first.0) (λ e. cc) in
    let second = word_staged g w' words slot (index_answer g w') first.1 (omega arith) refl in
    let w'' : World = happens g w' (step.Index slot) answer.Staged in
    let rest = items_go_in g later w'' files (words ++ slot ∷ []) (slot + 1) (step_on g w' files (step.Index slot) answer.Staged filled tt (sym second.0) (λ e. cc)) second.1 (omega arith) (omega (arith, length_push words slot)) in
    record {
      reaches = rest.reaches;
      staged_then = rest.staged_then;
      many = omega (arith, rest.many, length_push words slot);
      stands = rest.stands;
    }

-- The call opens.

length_asked : (l : Submission) (count : ℕ) → Stands l [] count → call_length l count ≡ count
length_asked l count s = omega (arith, s.waiting)

begins_so : (g : Setup) (w : World) (count : ℕ) → Stands w.submission [] count
    → w.is_closed ≡ false → is_spent w count ≡ false → begin_answer w count ≡ answer.Call count
begins_so g w count s is_open unspent = cc (length_asked w.submission count s)

call_begins : {moves : List Move} (g : Setup) (w : World) (files : List FileContents) (count : ℕ) → Reaches g w files moves
    → Stands w.submission [] count → w.is_closed ≡ false → is_spent w count ≡ false
    → Reaches g (in_call w count 0) files moves
call_begins g w files count there s is_open unspent =
    let called : OrAgain (begin_answer w count) (answer.Call count) = subst (λ x. OrAgain x (answer.Call count)) (sym (begins_so g w count s is_open unspent)) (inl refl) in
    let opened = call_opens g w count count (answer.Call count) s is_open (omega arith) called in
    as_well g (happens g w (step.Begin count) (answer.Call count)) (in_call w count 0) files opened.1 (step_on g w files (step.Begin count) (answer.Call count) there tt called (λ e. cc))

-- It takes its positions.

not_again : (place : Option Place) → place_answer place ≡ answer.Again → ⊥
not_again place e = grind arith

takes_on : {moves : List Move} (g : Setup) → g.stops ≡ false → g.linux ≡ false → (w : World) (files : List FileContents) (count done : ℕ)
    → Reaches g (in_call w count 0) files moves → Stands w.submission [] count → done ≤ count
    → Reaches g (in_call w count done) files moves
takes_on g goes manual w files count zero there s few = there
takes_on {moves} g goes manual w files count (suc done) there s few =
    let before : Reaches g (in_call w count done) files moves = takes_on g goes manual w files count done there s (omega arith) in
    let a : Answer = take_answer (in_call w count done) in
    let one = next_taken g goes manual w count count done a s (omega arith) (omega arith) refl in
    let next : done + 1 ≡ suc done = omega arith in
    as_well g (happens g (in_call w count done) step.Take a) (in_call w count (suc done)) files (one.1 ∙ ap (in_call w count) next)
    (step_on g (in_call w count done) files step.Take a before tt refl (λ e. not_again _ (sym one.0 ∙ e)))

-- It closes, and the application loads the head.

ends_so : (few : Bool) (accepted missed head : ℕ)
    → (if few then answer.NotAll else answer.Taken accepted missed head) ≡ answer.Again → ⊥
ends_so few accepted missed head e = grind arith

-- its end is a move
ends_accept : (few : Bool) (accepted missed head : ℕ) (moves : List Move) → few ≡ false
    → with_event step.End (if few then answer.NotAll else answer.Taken accepted missed head) moves
    ≡ moves ++ move.Accept ∷ []
ends_accept few accepted missed head moves e = cc

call_ends : {moves : List Move} (g : Setup) (w : World) (files : List FileContents) (count : ℕ)
    → Reaches g (in_call w count count) files moves → Stands w.submission [] count
    → Reaches g (after_call g w count) files (moves ++ move.Accept ∷ []) × Stands (after_call g w count).submission [] 0
call_ends {moves} g w files count there s =
    let a : Answer = end_answer g (in_call w count count) in
    let w' : World = happens g (in_call w count count) step.End a in
    let loads : Answer = answer.Head (word_of g.start (taken w'.submission)) in
    let closed = call_closes g w count count 0 a loads s (omega arith) refl in
    let ended : Reaches g w' files (moves ++ move.Accept ∷ []) = subst (Reaches g w' files) (ends_accept (nat_lt count count) _ _ _ moves (le-ltb count count (omega arith))) (step_on g (in_call w count count) files step.End a there tt refl (ends_so _ _ _ _)) in
    (as_well g (happens g w' step.LoadHead loads) (after_call g w count) files closed.0 (step_on g w' files step.LoadHead loads ended tt refl (λ e. cc)), closed.1)

-- A whole call.

-- the world in which these items are published
abbrev pub with_call_published : Setup → World → List Published → World
with_call_published g w items = record w { submission = with_published g.sq (with_items w.submission 0 items) }

pub record CallIsTaken (g : Setup) (w : World) (files : List FileContents) (moves : List Move) (items : List Published) : Type 0 where
  pub reaches : Reaches g (after_call g (with_call_published g w items) (length items)) files (moves ++ move.Accept ∷ [])
  pub stands : Stands (after_call g (with_call_published g w items) (length items)).submission [] 0
  pub waits : Stands (with_call_published g w items).submission [] (length items)

pub call_is_taken : {moves : List Move} (g : Setup) → g.stops ≡ false → g.linux ≡ false → (w : World) (files : List FileContents) (items : List Published)
    → Reaches g w files moves → Stands w.submission [] 0 → w.is_closed ≡ false
    → is_spent w (length items) ≡ false → length items ≤ g.sq → CallIsTaken g w files moves items
call_is_taken {moves} g goes manual w files items there s is_open unspent few =
    let inside = items_go_in g items w files [] 0 there s (omega arith) (omega arith) in
    let w1 : World = in_world w 0 items in
    let w2 : World = with_call_published g w items in
    let stored : Reaches g w2 files moves = step_on g w1 files step.StoreTail (answer.Tail (word_of g.start (staged w1.submission))) inside.reaches tt refl (λ e. cc) in
    let many : length inside.staged_then ≡ length items = omega (arith, inside.many) in
    let waits : Stands w2.submission [] (length items) = subst (λ n. Stands w2.submission [] n) many (tail_publishes g w1.submission inside.staged_then inside.stands) in
    let begun : Reaches g (in_call w2 (length items) 0) files moves = call_begins g w2 files (length items) stored waits is_open unspent in
    let took : Reaches g (in_call w2 (length items) (length items)) files moves = takes_on g goes manual w2 files (length items) (length items) begun waits (omega arith) in
    let closed = call_ends g w2 files (length items) took waits in
    record {
      reaches = closed.0;
      stands = closed.1;
      waits = waits;
    }
