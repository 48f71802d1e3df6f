use Rattle.std.proofs.Common.{subst, arith}
use Rattle.uring_histories.proofs.Common.{IsAmid, published_in, take_all}
use Rattle.uring_histories.proofs.replay.make_moves.Goals as goal

pub returns : goal.returns
returns c =
    subst (λ l. IsAmid c.args.setup.now c.loop-next.recording (published_in l))
    (take_all c.loop-next.done c.args.calls.now (omega arith)) c.loop-next.invariant
