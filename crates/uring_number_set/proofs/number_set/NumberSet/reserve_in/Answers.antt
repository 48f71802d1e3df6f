use Rattle.std.proofs.Common.{arith}
use Rattle.uring_number_set.proofs.FilledBlocks.{same_filled, same_set}
use Rattle.uring_number_set.proofs.number_set.NumberSet.reserve_in.Goals as goal

pub invariant_of-self : goal.invariant_of-self
invariant_of-self g c =
    let known = c.self.invariant in
    let kept = c.reserve_in.ensures in
    same_filled _ _ _ _ known (same_set c.self.inside.numbers) kept.same (omega arith) (omega arith) (omega arith) (omega arith)

pub invariant_of-self-2 : goal.invariant_of-self-2
invariant_of-self-2 g c =
    let known = c.self.invariant in
    let filled = c.reserve_in.ensures in
    let kept = c.reserve_in-2.ensures in
    same_filled _ _ _ _ known kept.same filled.same (omega arith) (omega arith) (omega arith) (omega arith)
