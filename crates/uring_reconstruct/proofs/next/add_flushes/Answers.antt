use Rattle.std.proofs.Common.{arith}
use Rattle.uring_core.specs.declared.step.Step.TheVariants as step
use Rattle.uring_core.specs.declared.answer.Answer.TheVariants as answer
use Rattle.uring_reconstruct.proofs.Events.{flush_part}
use Rattle.uring_reconstruct.proofs.Adding.{adds_then, adds_one, flush_next, flush_there, flush_called}
use Rattle.uring_reconstruct.proofs.next.add_flushes.Goals as goal

pub loop-moved-preserved : goal.loop-moved-preserved
loop-moved-preserved g c = record {
  adds = adds_then c.args.core.now c.args.wanted.now c.args.next.now.items c.loop-moved.next.items c.push.new.list.items c.loop-moved.invariant.adds
      (adds_one c.args.core.now c.args.wanted.now c.loop-moved.next.items c.push.new.list.items (step.Flush, answer.Moved c.loop-moved.moved) c.in_ok-push.ensures.items (λ seen h at lawful. flush_part c.args.core.now.setup seen h _ at.part lawful));
  below = flush_next c.loop-moved.next.items c.push.new.list.items c.loop-moved.moved c.in_ok-push.ensures.items c.loop-moved.invariant.below;
}

pub returns-clause-adds : goal.returns-clause-adds
returns-clause-adds g c =
    adds_then c.args.core.now c.args.wanted.now c.args.next.now.items c.loop-moved.next.items c.push-2.new.list.items c.loop-moved.invariant.adds
    (adds_one c.args.core.now c.args.wanted.now c.loop-moved.next.items c.push-2.new.list.items (step.Flush, answer.Moved c.overflowing-waiting.result) c.in_ok-push-2.ensures.items (λ seen h at lawful. flush_part c.args.core.now.setup seen h _ at.part lawful))

pub returns-clause-all : goal.returns-clause-all
returns-clause-all g c = λ h a fits stale called.
    flush_called c.args.core.now h a c.overflowing-waiting.result c.push-2.new.list.items called (c.overflowing-waiting.ensures h fits)
    (λ m few. flush_there c.loop-moved.next.items c.push-2.new.list.items c.overflowing-waiting.result c.loop-moved.moved m (omega arith) c.in_ok-push-2.ensures.items c.loop-moved.invariant.below few)
