use Rattle.std.proofs.Common.{◌≡◌, ℕ, ◌+◌, ◌≤◌, List, ◌++◌, length, take, drop, Option, Some, None, refl, ap, arith, IfSome}
use Rattle.uring_core.proofs.Common.{Call, Core, Place, Sq, Submission, common_steps, entries_of, held_by, pending, staged, taken, with_published, word_of, world}
use Rattle.uring_core.specs.declared.step.Step.TheVariants as step
use Rattle.uring_core.specs.declared.answer.Answer.TheVariants as answer
use Rattle.uring_core.proofs.TakenEntries.{stored_entries}
use Rattle.uring_core.proofs.CoreSteps.{on_submission, SubmissionStep, core_after}
use Rattle.uring_core.proofs.cores.Core.store_tail.Goals as goal

-- what a call took stays as more is published
held_stored : (size : ℕ) (l : Submission) (c : Option Call)
    → IfSome c (λ call. (call.taken ≤ call.count) × (call.count ≤ pending l))
    → taken l ≤ length l.published → held_by (with_published size l) c ≡ held_by l c
held_stored size l None fits within = refl
held_stored size l (Some call) fits within =
    ap entries_of (took_before (taken l) call.taken l.published _ (omega arith))
  where
    took_before : (n t : ℕ) (xs ys : List Place) → n + t ≤ length xs → take t (drop n (xs ++ ys)) ≡ take t (drop n xs)
    took_before n t xs ys within = grind (arith, common_steps)

store_tail_goes : (p : Core) (q : Sq) (tail : ℕ)
    → SubmissionStep p q (step.StoreTail, answer.Tail tail) (λ g l. tail ≡ word_of g.start (staged l)) (λ g l. with_published g.sq l)
store_tail_goes p q tail answered shown h f =
    let s = f.shows.submission in
    let l = (world p.setup h).submission in
    record {
      shows = on_submission p (world p.setup h) q (with_published p.setup.sq l) f.shows (shown p.setup _ s) refl (held_stored p.setup.sq l l.call s.call_fits s.taken_first) (stored_entries p.setup.sq l s.taken_first s.call_fits);
      lawful = (ap (λ n. answer.Tail n) (answered p.setup _ s), f.lawful);
    }

pub invariant_of-self : goal.invariant_of-self
invariant_of-self c = (c.self.invariant.0, core_after _ _ _ refl (store_tail_goes _ c.store_tail.new.self c.store_tail.result c.store_tail.ensures.answer c.store_tail.ensures.shows) c.self.invariant.1)

pub returns-clause-fits : goal.returns-clause-fits
returns-clause-fits c = rw (← c.self.view_is) (store_tail_goes _ c.store_tail.new.self c.store_tail.result c.store_tail.ensures.answer c.store_tail.ensures.shows)
