use Rattle.std.proofs.Common.{[], ap, ◌∙◌, arith}
use Rattle.uring_reconstruct.proofs.Common.{completions_in, take_all}
use Rattle.uring_reconstruct.proofs.Seeing.{completions_next}
use Rattle.uring_reconstruct.proofs.seen.completions.Goals as goal

pub loop-event-preserved : goal.loop-event-preserved
loop-event-preserved g c =
    completions_next c.args.seen.now c.loop-event.event-index c.event-item.result [] c.loop-event.told.items c.add_completion.new.told.items (omega arith) c.event-item.is c.loop-event.invariant c.in_ok-add_completion.ensures.told

pub returns-clause-told : goal.returns-clause-told
returns-clause-told g c = c.loop-event.invariant ∙ ap completions_in (take_all c.loop-event.event-index c.args.seen.now (omega arith))
