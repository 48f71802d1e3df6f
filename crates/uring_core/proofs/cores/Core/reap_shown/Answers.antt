use Rattle.std.proofs.Common.{◌+◌, ◌∙◌, arith, subst, sym, take}
use Rattle.uring_core.proofs.Common.{common_steps, drop-set-lt, drop_more_same, FitsApart, after_reaps}
use Rattle.uring_core.proofs.WholeCalls.{reaps_next, memory_then}
use Rattle.std.proofs.Math.Nat.{le_antisymm}
use Rattle.uring_core.proofs.cores.Core.reap_shown.Goals as goal

pub loop-count-preserved : goal.loop-count-preserved
loop-count-preserved c =
    let i = c.loop-count.invariant in
    record {
      setup = c.reap_next.ensures.setup ∙ i.setup;
      fits = λ h f.
          rw (reaps_next c.loop-count.into c.loop-count.count c.in-Some.completion h (omega arith))
          (rw c.in-Some.is at (c.reap_next.ensures.fits _ (i.fits h f)));
      many = grind (arith, i.many, common_steps);
      rest = drop-set-lt (c.loop-count.count + 1) c.loop-count.into c.loop-count.count c.in-Some.completion (omega arith) ∙ drop_more_same c.loop-count.into c.args.into.now c.loop-count.count i.rest;
      memory = memory_then c.args.self.now c.loop-count.self c.reap_next.new.self i.memory c.reap_next.ensures.memory;
    }

pub returns-clause-fits : goal.returns-clause-fits
returns-clause-fits c =
    let i = c.loop-count.invariant in
    λ h f. subst (λ n. FitsApart c.loop-count.self (after_reaps (take n c.loop-count.into) h)) (le_antisymm c.loop-count.auto.count-end c.loop-count-test.false ∙ sym i.many) (i.fits h f)

pub returns-in_default-clause-fits : goal.returns-in_default-clause-fits
returns-in_default-clause-fits c = rw (c.reap_next.ensures.none c.in_default.is) c.loop-count.invariant.fits
