use Rattle.std.proofs.Common.{rules}
use Rattle.uring_observed_text.proofs.Common.{HasNoBytes, IfOk-weaker}
use Rattle.uring_observed_text.proofs.WrittenSteps.{answered_written}
use Rattle.uring_observed_text.proofs.written.written_step.Goals as goal

pub returns-in_default-clause-sight : goal.returns-in_default-clause-sight
returns-in_default-clause-sight g c =
    let of : HasNoBytes c.args.step.now = search rules in
    IfOk-weaker c.answered.result _ _ (λ seen so h fits. answered_written c.answered.new.core h c.args.step.now c.args.text.now seen of (so h fits)) c.answered.ensures.sight
