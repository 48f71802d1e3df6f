use Rattle.std.proofs.Common.{◌∙◌, subst}
use Rattle.uring_core.specs.declared.step.Step.TheVariants as step
use Rattle.uring_core.proofs.WholeCalls.{as_called, takes_next, memory_then}
use Rattle.std.proofs.Math.Nat.{le_antisymm}
use Rattle.uring_core.proofs.Common.{FitsApart, after_takes}
use Rattle.uring_core.proofs.cores.Core.take_all.Goals as goal

pub loop-preserved : goal.loop-preserved
loop-preserved c =
    let i = c.loop.invariant in
    record {
      setup = c.take.ensures.setup ∙ i.setup;
      fits = λ h f.
          rw (takes_next c.args.self.now.setup c.loop.counter h)
          (as_called c.take.new.self c.args.self.now.setup step.Take c.take.result _ _ (c.take.ensures.setup ∙ i.setup) (λ e. e) (c.take.ensures.fits _ (i.fits h f)));
      memory = memory_then _ _ _ i.memory c.take.ensures.memory;
    }

pub returns-clause-fits : goal.returns-clause-fits
returns-clause-fits c = λ h f. subst (λ n. FitsApart c.loop.self (after_takes c.args.self.now.setup n h)) (le_antisymm c.loop.auto.counter-end c.loop-test.false) (c.loop.invariant.fits h f)
