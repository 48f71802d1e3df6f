use Rattle.std.proofs.Common.{sym, ◌∙◌}
use Rattle.uring_callers.proofs.Turns.{fits_without_next, turn_goes_on, turn_issue, turn_start, turn_operation, turn_finish}
use Rattle.uring_callers.proofs.simulator.end_next.Goals as goal

pub returns-in_default-clause-ended : goal.returns-in_default-clause-ended
returns-in_default-clause-ended c = λ h fits quiet some.
    absurd (turn_goes_on c.args.core.now c.step.new.self h c.step.result c.step.ensures.setup quiet some (c.step.ensures.fits h fits) c.in_default.not-Next)

pub returns-in_default-step-clause-ended : goal.returns-in_default-step-clause-ended
returns-in_default-step-clause-ended c = λ h fits quiet some.
    let asked = c.step.ensures.fits h fits in
    turn_issue c.args.core.now c.step.new.self c.step-2.new.self h c.in-Next.number c.step.result c.step-2.result c.step.ensures.setup c.step-2.ensures.setup c.in-Next.is c.in_default-step.not-Run quiet asked
    (c.step-2.ensures.fits h (fits_without_next c.step.new.self c.step.result h asked))

pub returns-in_default-running_op-clause-ended : goal.returns-in_default-running_op-clause-ended
returns-in_default-running_op-clause-ended c = λ h fits quiet some.
    let asked = c.step.ensures.fits h fits in
    let started =
    turn_start c.args.core.now c.step.new.self c.step-2.new.self h c.in-Next.number c.step.result c.step-2.result c.step.ensures.setup c.step-2.ensures.setup c.in-Next.is c.in-Run.is quiet asked
    (c.step-2.ensures.fits h (fits_without_next c.step.new.self c.step.result h asked)) in
    absurd (turn_operation c.step-2.new.self h c.in-Next.number started (sym c.in_default-running_op.is ∙ c.running_op.ensures.value _ started.fits))

pub returns-clause-ended : goal.returns-clause-ended
returns-clause-ended c = λ h fits quiet some.
    let asked = c.step.ensures.fits h fits in
    let started =
    turn_start c.args.core.now c.step.new.self c.step-2.new.self h c.in-Next.number c.step.result c.step-2.result c.step.ensures.setup c.step-2.ensures.setup c.in-Next.is c.in-Run.is quiet asked
    (c.step-2.ensures.fits h (fits_without_next c.step.new.self c.step.result h asked)) in
    turn_finish c.step-2.new.self c.finish.new.self h c.in-Next.number c.finish.result c.finish.ensures.setup started (c.finish.ensures.fits _ started.fits)
