use Rattle.uring_text.proofs.Writing.{wrote_more}
use Rattle.uring_text.proofs.streams.write_all.Goals as goal

pub loop-rest-preserved-in-Ok : goal.loop-rest-preserved-in-Ok
loop-rest-preserved-in-Ok g c = rw c.split_at.ensures.back (wrote_more _ _ _ c.args.bytes.now c.loop-rest.rest.now _ c.loop-rest.invariant.0 c.loop-rest.invariant.1 c.loop-rest.invariant.2 c.in-Ok.ensures.bytes)
