use Rattle.uring_trace.proofs.Common.{requests_of, world}
use Rattle.uring_trace.proofs.ShownTexts.{rows_more}
use Rattle.uring_trace.proofs.requests_text.push_requests.Goals as goal

pub loop-number-preserved : goal.loop-number-preserved
loop-number-preserved g c = λ h fits.
    rows_more c.args.core.now.setup.linux (requests_of (world c.args.core.now.setup h)) c.loop-number.number _ _ _ _ _ (c.loop-number.invariant h fits) c.in_ok-push_row.ensures.bytes (c.entry.ensures h fits) (c.why.ensures h fits)
