use Rattle.std.proofs.Common.{arith}
use Rattle.uring_core.specs.Histories.{world}
use Rattle.uring_trace.proofs.ChosenTexts.{targets_more, targets_all}
use Rattle.uring_trace.proofs.chosen.push_targets.Goals as goal

pub loop-other-preserved : goal.loop-other-preserved
loop-other-preserved g c = λ h fits is.
    targets_more (world c.args.core.now.setup h).requests c.args.number c.loop-other.other c.is_target_of.result _ (c.is_target_of.ensures h fits is) (c.in_ok-push_target.ensures.told _ (c.loop-other.invariant h fits is))

pub returns-clause-told : goal.returns-clause-told
returns-clause-told g c = λ h fits is.
    targets_all (world c.args.core.now.setup h).requests c.args.number c.loop-other.other _ (omega (arith, (c.counts-other-end.ensures h fits).accepted)) (c.loop-other.invariant h fits is)
