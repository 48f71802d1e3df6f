use Rattle.std.proofs.Common.{refl, ◌∙◌, arith}
use Rattle.uring_machine.proofs.Settling.{counted, outstanding_of, settled_none, settled_more, settled_all}
use Rattle.uring_machine.proofs.machine.Machine.settle_idle_in.Goals as goal

pub loop-init : goal.loop-init
loop-init g c = record { setup = refl; settled = λ h fits. settled_none _ c.args.self.now h fits }

pub settle_one-steps-requires : goal.settle_one-steps-requires
settle_one-steps-requires g c =
    let held = counted c.self.inside.core c.self.inside.files c.args.self.now c.counts-outstanding.result.outstanding c.self.view_is c.self.invariant (λ h f. (c.counts-outstanding.ensures h f).outstanding) in
    omega (arith, held.same, (c.loop.invariant.settled held.history held.fits).fewer)

pub overflow_add-steps : goal.overflow_add-steps
overflow_add-steps g c =
    let held = counted c.self.inside.core c.self.inside.files c.args.self.now c.counts-outstanding.result.outstanding c.self.view_is c.self.invariant (λ h f. (c.counts-outstanding.ensures h f).outstanding) in
    omega (arith, held.few, (c.loop.invariant.settled held.history held.fits).few, c.settle_one-steps.ensures.steps)

pub loop-preserved : goal.loop-preserved
loop-preserved g c =
    record {
      setup = c.settle_one-steps.ensures.setup ∙ c.loop.invariant.setup;
      settled = λ h fits.
          settled_more _ c.args.self.now c.loop.self c.settle_one-steps.new.self h c.loop.steps c.settle_one-steps.result c.loop.counter c.settle_one-steps.ensures.setup (c.loop.invariant.settled h fits) c.settle_one-steps.ensures.settled;
    }

pub returns-clause-setup : goal.returns-clause-setup
returns-clause-setup g c = c.loop.invariant.setup

pub returns-clause-settled : goal.returns-clause-settled
returns-clause-settled g c = λ h fits.
    let held = counted c.self.inside.core c.self.inside.files c.args.self.now c.counts-outstanding.result.outstanding c.self.view_is c.self.invariant (λ k f. (c.counts-outstanding.ensures k f).outstanding) in
    settled_all _ c.args.self.now c.loop.self h c.loop.steps c.loop.counter c.loop.invariant.setup fits (omega (arith, held.same, outstanding_of c.args.self.now h fits)) (c.loop.invariant.settled h fits)
