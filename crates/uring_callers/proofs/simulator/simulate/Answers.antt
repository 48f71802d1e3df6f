use Rattle.std.proofs.Common.{◌≤◌, ◌++◌, refl, ap, arith, ◌∙◌}
use Rattle.uring_callers.proofs.Common.{outstanding_in, world}
use Rattle.uring_callers.proofs.Turns.{run_none, run_more, run_all}
use Rattle.uring_callers.proofs.simulator.simulate.Goals as goal

pub loop-init : goal.loop-init
loop-init c = record { setup = refl; ended = λ h fits quiet. run_none c.args.core.now h quiet fits }

pub loop-preserved : goal.loop-preserved
loop-preserved c = record {
  setup = c.end_next.ensures.setup ∙ c.loop.invariant.setup;
  ended = λ h fits quiet.
      let before = c.loop.invariant.ended h fits quiet in
      let left : 1 ≤ outstanding_in (world c.loop.core.setup (before.events ++ h)).requests =
      omega (arith, before.fewer, (c.counts-end.ensures h fits).outstanding, c.loop-test.true, ap (λ g. outstanding_in (world g h).requests) c.loop.invariant.setup) in
      run_more c.loop.core c.end_next.new.core h c.loop.counter c.end_next.ensures.setup before (c.end_next.ensures.ended _ before.fits before.quiet left);
}

pub returns-clause-idle : goal.returns-clause-idle
returns-clause-idle c = λ h fits quiet.
    run_all c.loop.core h c.loop.counter
    (omega (arith, (c.counts-end.ensures h fits).outstanding, c.loop-test.false, c.loop.auto.counter-end, ap (λ g. outstanding_in (world g h).requests) c.loop.invariant.setup))
    (c.loop.invariant.ended h fits quiet)
