use Rattle.std.proofs.Common.{arith}
use Rattle.uring_number_set.proofs.FilledBlocks.{same_filled, let_go}
use Rattle.uring_number_set.proofs.number_set.NumberSet.drop_before.Goals as goal

pub invariant_of-self : goal.invariant_of-self
invariant_of-self c =
    let known = c.self.invariant in
    same_filled _ _ _ _ known c.drop_before.ensures.same c.drop_before-2.ensures.same (c.drop_before-2.ensures.start c.drop_before.new.self.first (omega arith) (omega arith)) (omega arith) (omega arith)
    (let_go _ _ _ _ known c.drop_before.ensures.same c.drop_before-2.ensures.same (omega arith) (rw c.first.ensures at c.drop_before-2.ensures.far))
