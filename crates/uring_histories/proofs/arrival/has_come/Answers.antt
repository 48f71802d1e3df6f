use Rattle.std.proofs.Common.{◌≡◌, length, arith}
use Rattle.uring_histories.proofs.Common.{outstanding_in, same_by_places, world}
use Rattle.uring_histories.proofs.arrival.has_come.Goals as goal

pub returns : goal.returns
returns c = λ h fits none so.
    let w = world c.args.machine.now.core.setup h in
    let counts = c.counts-counts.ensures h fits in
    let all : length w.completions.posted ≡ length c.args.posted.now = omega (arith, counts.posted) in
    let over : outstanding_in w.requests ≡ 0 = omega (arith, counts.outstanding) in
    (over, same_by_places w.completions.posted c.args.posted.now c.loop-place.place (omega arith) (omega arith) (c.loop-place.invariant h fits none))
