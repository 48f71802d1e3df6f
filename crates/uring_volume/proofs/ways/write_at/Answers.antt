use Rattle.std.proofs.Common.{arith}
use Rattle.uring_volume.proofs.Seeking.{painted}
use Rattle.uring_volume.proofs.ways.write_at.Goals as goal

pub returns : goal.returns
returns c =
    painted c.args.from c.loop-j.now c.args.now.now c.args.piece.now c.loop-j.invariant.same (λ j within. c.loop-j.invariant.done j (omega (arith, c.loop-j.invariant.same)) (omega (arith, c.loop-j.invariant.same)))
