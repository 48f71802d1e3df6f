use Rattle.uring_trace.proofs.Common.{overflow_of, world}
use Rattle.uring_trace.proofs.ShownTexts.{overflow_more}
use Rattle.uring_trace.proofs.shown_text.push_overflow.Goals as goal

pub loop-place-preserved : goal.loop-place-preserved
loop-place-preserved g c = λ h fits.
    overflow_more (overflow_of (world c.args.machine.now.core.setup h).completions) c.loop-place.place c.overflow.result _ _ _ (c.loop-place.invariant h fits) c.in_ok-push_listed.ensures.bytes (c.overflow.ensures h fits)
