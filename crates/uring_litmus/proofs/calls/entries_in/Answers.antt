use Rattle.std.proofs.Common.{rules}
use Rattle.uring_litmus.proofs.CallEntries.{call_more}
use Rattle.uring_litmus.proofs.calls.entries_in.Goals as goal

pub loop-call-preserved : goal.loop-call-preserved
loop-call-preserved g c =
    rw c.in_ok-push.ensures.items
    (call_more c.args.calls.now c.loop-call.call-index c.call-item.result c.loop-call.all.items c.in_ok-entries.entries (search rules) c.call-item.is c.loop-call.invariant (rw c.as_slice.ensures.value at c.in_ok-entries.ensures.entries))
