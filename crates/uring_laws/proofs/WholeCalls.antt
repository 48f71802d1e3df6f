-- The law `empty_ring_takes_a_whole_call`: from the laws of single steps, by induction over the items.
-- `items_go_in` goes on from any history that ends with the ring as it stands, with some words staged.
use Rattle.std.proofs.Common.{◌≡◌, ℕ, ◌+◌, ◌≤◌, List, [], ◌∷◌, ◌++◌, length, ap, ◌∙◌, arith}
use Rattle.uring_laws.proofs.Common.{Answer, Event, History, IsLawfulApart, Published, Setup, Sqe, Stands, Submission, TakesWholeCall, World, after_items, bad_word, history_of, item_answers, item_steps, length_push, staged, with_entry, with_items, world, zip}
use Rattle.uring_entry.specs.IndexWords.{word_of}
use Rattle.uring_core.specs.declared.step.Step.TheVariants as step
use Rattle.uring_core.specs.declared.answer.Answer.TheVariants as answer
use Rattle.uring_core.proofs.Following.{history_of_cons}
use Rattle.uring_laws.proofs.Growth.{lawful_before}
use Rattle.uring_laws.proofs.Standing.{slot_filled, word_staged, tail_publishes, items_keep, items_published, call_opens}

-- None of these items was refused: the world is the one with them, and the ring stands with as many words more.
record NoneRefused (g : Setup) (before : History) (words : List ℕ) (slot : ℕ) (items : List Published) (answers : List Answer) : Type 0 where
  none_refused : answers ≡ item_answers items
  now : world g (history_of (zip (item_steps slot items) answers) ++ before) ≡ record (world g before) { submission = with_items (world g before).submission slot items }
  staged : List ℕ
  many : length staged ≡ length words + length items
  stands : Stands (with_items (world g before).submission slot items) staged 0

-- from here on these items go in, none refused
abbrev GoIn : Setup → ℕ → List Published → Type 0
GoIn g slot items =
    (before : History) (words : List ℕ) (answers : List Answer) → Stands (world g before).submission words 0
    → slot + length items ≤ g.sq → length words + length items ≤ g.sq
    → length answers ≡ length (item_steps slot items)
    → IsLawfulApart g (history_of (zip (item_steps slot items) answers) ++ before)
    → NoneRefused g before words slot items answers

word_goes_in : (g : Setup) (slot word : ℕ) (later : List Published) → GoIn g (slot + 1) later → GoIn g slot (bad_word word ∷ later)
word_goes_in g slot word later rest before words (a ∷ answers) stands low few many lawful =
    let events : List Event = zip (item_steps (slot + 1) later) answers in
    let after = rw (history_of_cons (step.Index word, a) events before) at lawful in
    let one = word_staged g (world g before) words word a stands (omega arith) (lawful_before g (history_of events) ((step.Index word, a) ∷ before) after).0 in
    let others = rest ((step.Index word, answer.Staged) ∷ before) (words ++ word ∷ []) answers one.1 (omega arith) (omega (arith, length_push words word)) (omega (arith, many)) (rw one.0 at after) in
    grind (arith, one.0, others, history_of_cons, length_push)
word_goes_in g slot word later rest before words [] stands low few many lawful = absurd (omega (arith, many))

-- an entry fills its slot, and goes in by its word then
entry_goes_in : (g : Setup) (slot : ℕ) (entry : Sqe) (later : List Published) → GoIn g slot (bad_word slot ∷ later) → GoIn g slot (with_entry entry ∷ later)
entry_goes_in g slot entry later rest before words (a ∷ answers) stands low few many lawful =
    let events : List Event = zip (step.Index slot ∷ item_steps (slot + 1) later) answers in
    let after = rw (history_of_cons (step.Fill slot entry, a) events before) at lawful in
    let one = slot_filled g (world g before) words slot entry a stands (omega arith) (lawful_before g (history_of events) ((step.Fill slot entry, a) ∷ before) after).0 in
    let others = rest ((step.Fill slot entry, answer.Filled) ∷ before) words answers one.1 low few (omega (arith, many)) (rw one.0 at after) in
    grind (arith, one.0, others, history_of_cons)
entry_goes_in g slot entry later rest before words [] stands low few many lawful = absurd (omega (arith, many))

items_go_in : (g : Setup) (slot : ℕ) (items : List Published) → GoIn g slot items
items_go_in g slot [] before words [] stands low few many lawful = grind arith
items_go_in g slot [] before words (a ∷ answers) stands low few many lawful = absurd (omega (arith, many))
items_go_in g slot (bad_word word ∷ later) before words answers stands low few many lawful =
    word_goes_in g slot word later (items_go_in g (slot + 1) later) before words answers stands low few many lawful
items_go_in g slot (with_entry entry ∷ later) before words answers stands low few many lawful =
    entry_goes_in g slot entry later (word_goes_in g slot slot later (items_go_in g (slot + 1) later)) before words answers stands low few many lawful

pub takes_whole_call : (g : Setup) → TakesWholeCall g
takes_whole_call g before items answers tail begun stands is_open few many lawful =
    let l : Submission = (world g before).submission in
    let inside = items_go_in g 0 items before [] answers stands (omega arith) (omega arith) many lawful.1.1 in
    let there : World = world g (after_items items answers before) in
    let count : staged there.submission ≡ length l.published + length items = rw inside.now (omega (arith, ap length (items_keep l 0 items), ap length inside.stands.fresh, inside.many)) in
    let opened = call_opens g (world g ((step.StoreTail, tail) ∷ after_items items answers before)) (length inside.staged) (length items) begun (rw inside.now (tail_publishes g (with_items l 0 items) inside.staged inside.stands)) (ap (λ v. v.is_closed) inside.now ∙ is_open) (omega (arith, inside.many)) lawful.0 in
    record {
      none_refused = inside.none_refused;
      tail_is = lawful.1.0 ∙ ap (λ n. answer.Tail (word_of g.start n)) count;
      are_published = λ good. rw inside.now (items_published l g.sq items stands.fresh few good);
      opens = grind (arith, opened.0, inside.now);
    }
