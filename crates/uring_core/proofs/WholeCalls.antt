-- Rows of steps that are made at once: one entry, one take or one completion more at their end, and what their answers are known to be.
use Rattle.std.proofs.Common.{◌≡◌, ℕ, ◌+◌, ◌≤◌, ◌<◌, List, [], ◌∷◌, ◌++◌, length, take, set, get_or, refl, ap, ◌∙◌, arith}
use Rattle.uring_core.proofs.Common.{Answer, CalledForApart, Core, Cqe, Err, FitsApart, HasNoLessMemory, History, IsShortFor, OrAgain, Result, Setup, Sqe, Step, World, after_entries, after_fill, after_index, after_reaps, after_takes, begin_answer, call_length, common_steps, elements_for_call, length-take-le, take_answer, take_more, world, after_refused}
use Rattle.uring_core.specs.declared.cores.submit.NotSubmitted.{NotSubmitted}
use Rattle.uring_core.specs.declared.cores.submit.NotSubmitted.TheVariants as refused
use Rattle.uring_core.specs.declared.step.Step.TheVariants as step
use Rattle.uring_core.specs.declared.answer.Answer.TheVariants as answer

-- an answer is the one that is called for
pub as_called : (p : Core) (g : Setup) (s : Step) (a b : Answer) (h : History) → p.setup ≡ g
    → (CalledForApart g (world g h) s a → a ≡ b) → FitsApart p ((s, a) ∷ h)
    → FitsApart p ((s, b) ∷ h)
as_called p g s a b h same told f = grind arith

-- the last entry is put in last
pub after_entries_snoc : (g : Setup) (slot : ℕ) (entries : List Sqe) (entry : Sqe) (h : History)
    → after_entries g slot (entries ++ entry ∷ []) h
    ≡ after_index g (slot + length entries) (after_fill g (slot + length entries) entry (after_entries g slot entries h))
after_entries_snoc g slot [] entry h = grind arith
after_entries_snoc g slot (first ∷ later) entry h =
    grind (arith, (after_entries_snoc g (slot + 1) later entry (after_index g slot (after_fill g slot first h))))

-- the entry of this place is put in
pub entries_next : (g : Setup) (entries : List Sqe) (i slot : ℕ) (entry : Sqe) (h : History)
    → slot ≡ i → i < length entries → entry ≡ get_or entries i entry
    → after_entries g 0 (take (i + 1) entries) h
    ≡ after_index g slot (after_fill g slot entry (after_entries g 0 (take i entries) h))
entries_next g entries i slot entry h at within is =
    grind (arith, (take_more entries i entry within), (after_entries_snoc g 0 (take i entries) entry h), length-take-le)

-- one position more is taken
pub takes_next : (g : Setup) (n : ℕ) (h : History)
    → after_takes g (n + 1) h
    ≡ (step.Take, take_answer (world g (after_takes g n h))) ∷ after_takes g n h
takes_next g n h = grind arith

-- the last completion is reaped last
pub after_reaps_snoc : (completions : List Cqe) (completion : Cqe) (h : History)
    → after_reaps (completions ++ completion ∷ []) h
    ≡ (step.Reap, answer.Reaped completion) ∷ after_reaps completions h
after_reaps_snoc [] completion h = refl
after_reaps_snoc (first ∷ later) completion h =
    after_reaps_snoc later completion ((step.Reap, answer.Reaped first) ∷ h)

-- the completion of this place is reaped
pub reaps_next : (completions : List Cqe) (i : ℕ) (completion : Cqe) (h : History)
    → i < length completions
    → after_reaps (take (i + 1) (set completions i completion)) h
    ≡ (step.Reap, answer.Reaped completion) ∷ after_reaps (take i completions) h
reaps_next completions i completion h within = grind (arith, common_steps, after_reaps_snoc)

-- A change of the submission ring alone, and then another.
pub submission_then : (p q r : Core) → q ≡ record p { sq = q.sq } → r ≡ record q { sq = r.sq }
    → r ≡ record p { sq = r.sq }
submission_then p q r first second = second ∙ ap (λ (x : Core). record x { sq = r.sq }) first

-- it keeps the memory
pub submission_keeps : (p q : Core) → q ≡ record p { sq = q.sq } → HasNoLessMemory p q
submission_keeps p q alone = grind arith

pub memory_then : (p q r : Core) → HasNoLessMemory p q → HasNoLessMemory q r
    → HasNoLessMemory p r
memory_then p q r first second = grind arith

-- a call that opens has the length that is called for
pub opened_called : (w : World) (count n : ℕ) → OrAgain (begin_answer w count) (answer.Call n)
    → answer.Call n ≡ answer.Call (call_length w.submission count)
opened_called w count n told = grind arith

-- a call that was refused before its Begin made nothing
pub nothing_made : (g : Setup) (entries : List Sqe) (refusal : NotSubmitted) (h : History)
    → ((a : Answer) → refusal ≡ refused.Begin a → ⊥) → after_refused g entries refusal h ≡ h
nothing_made g entries refusal h before = grind arith

-- one refusal, and one answer of a Begin that was refused
pub one_refusal : (a b : NotSubmitted) → ◌≡◌ {A = Result Answer NotSubmitted} (Err a) (Err b)
    → a ≡ b
one_refusal a b e = cc

pub begin_refused : (a b : Answer)
    → ◌≡◌ {A = Result Answer NotSubmitted} (Err (refused.Begin a)) (Err (refused.Begin b)) → a ≡ b
begin_refused a b e = cc

-- memory that is short for a call is short for a longer one
pub short_for_more : (p : Core) (few many : ℕ) → few ≤ many → IsShortFor p few → IsShortFor p many
short_for_more p few many less h = grind arith

-- and a longer one may need more elements
pub more_elements : (p : Core) (few many n : ℕ) → few ≤ many → elements_for_call p many ≤ n
    → elements_for_call p few ≤ n
more_elements p few many n less within = omega arith
