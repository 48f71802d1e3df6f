-- The application reaps all that was posted, one completion after the other: each time the dispatcher flushes, and the application loads the tail, reaps, and stores the head.
use Rattle.std.proofs.Common.{◌≡◌, ℕ, ◌-◌, ◌≤◌, List, [], ◌∷◌, ◌++◌, length, Some, refl, sym, ap, ◌∙◌, arith, append_assoc, append-nil, slice_get}
use Rattle.uring_outcomes.proofs.Common.{Answer, Cqe, FileContents, Move, Setup, World, happens, length-append, reap_answer_of}
use Rattle.uring_entry.specs.Completions.{Completions, next_to_reap, put_by_flush, with_flushed, with_head_stored, with_reaped, with_tail_loaded}
use Rattle.uring_entry.specs.IndexWords.{word_of}
use Rattle.uring_core.specs.declared.step.Step.TheVariants as step
use Rattle.uring_core.specs.declared.answer.Answer.TheVariants as answer
use Rattle.uring_outcomes.proofs.Reaching.{Reaches, step_on}

-- a world like another, in which all that was posted was reaped
pub record AllReaped (g : Setup) (w : World) (files : List FileContents) (moves : List Move) : Type 0 where
  pub there : World
  pub reaches : Reaches g there files moves
  pub submission : there.submission ≡ w.submission
  pub requests : there.requests ≡ w.requests
  pub posted : there.completions.posted ≡ w.completions.posted
  pub reaped : there.completions.reaped ≡ w.completions.posted

-- the world in which one completion more was reaped
abbrev with_one_reaped : Setup → World → Cqe → World
with_one_reaped g w c =
    record w {
      completions = with_head_stored (with_reaped (with_tail_loaded (with_flushed g.cq w.completions)) c);
    }

element_after : (xs : List Cqe) (x : Cqe) (ys : List Cqe)
    → slice_get (xs ++ x ∷ ys) (length xs) ≡ Some x
element_after [] x ys = refl
element_after (first ∷ xs) x ys = element_after xs x ys

next_is : (size : ℕ) (l : Completions) (c : Cqe) (later : List Cqe) → 1 ≤ size
    → l.head ≡ length l.reaped → l.reaped ++ c ∷ later ≡ l.posted
    → next_to_reap (with_tail_loaded (with_flushed size l)) ≡ Some c
next_is size l c later some head split = grind (arith, length-append, element_after)

one_reaped : {moves : List Move} (g : Setup) (w : World) (files : List FileContents) (c : Cqe) (later : List Cqe) → 1 ≤ g.cq
    → Reaches g w files moves → w.completions.head ≡ length w.completions.reaped
    → w.completions.reaped ++ c ∷ later ≡ w.completions.posted
    → Reaches g (with_one_reaped g w c) files moves
one_reaped {moves} g w files c later some there head split =
    let a1 : Answer = answer.Moved (put_by_flush g.cq w.completions - w.completions.put) in
    let w1 : World = happens g w step.Flush a1 in
    let r1 : Reaches g w1 files moves = step_on g w files step.Flush a1 there tt refl (λ e. cc) in
    let a2 : Answer = answer.Tail (word_of g.start w1.completions.put) in
    let w2 : World = happens g w1 step.LoadCqTail a2 in
    let r2 : Reaches g w2 files moves = step_on g w1 files step.LoadCqTail a2 r1 tt refl (λ e. cc) in
    let w3 : World = happens g w2 step.Reap (answer.Reaped c) in
    let r3 : Reaches g w3 files moves = step_on g w2 files step.Reap (answer.Reaped c) r2 tt (sym (ap reap_answer_of (next_is g.cq w.completions c later some head split))) (λ e. cc) in
    step_on g w3 files step.StoreCqHead (answer.Head (word_of g.start (length w3.completions.reaped))) r3 tt refl (λ e. cc)

pub all_reaped : {moves : List Move} (g : Setup) (left : List Cqe) (w : World) (files : List FileContents) → 1 ≤ g.cq
    → Reaches g w files moves → w.completions.head ≡ length w.completions.reaped
    → w.completions.reaped ++ left ≡ w.completions.posted → AllReaped g w files moves
all_reaped g [] w files some there head split = grind (arith, append-nil)
all_reaped g (c ∷ later) w files some there head split =
    let v : World = with_one_reaped g w c in
    let rest = all_reaped g later v files some (one_reaped g w files c later some there head split) refl (append_assoc w.completions.reaped (c ∷ []) later ∙ split) in
    record {
      there = rest.there;
      reaches = rest.reaches;
      submission = rest.submission;
      requests = rest.requests;
      posted = rest.posted;
      reaped = rest.reaped;
    }
