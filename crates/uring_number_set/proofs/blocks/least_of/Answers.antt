use Rattle.std.proofs.Common.{arith, pos_of_ne-zero}
use Rattle.uring_number_set.proofs.BlockLemmas.{block_none, block_least}
use Rattle.uring_number_set.proofs.blocks.least_of.Goals as goal

pub returns-then-rest-eq0 : goal.returns-then-rest-eq0
returns-then-rest-eq0 c = block_none c.args.block c.args.n c.if-rest-eq0.true

pub overflow_add-result : goal.overflow_add-result
overflow_add-result c =
    let least = block_least c.args.block c.args.n (omega arith) (pos_of_ne-zero c.if-rest-eq0.false) in
    let same = least.same in
    omega arith

pub returns : goal.returns
returns c = block_least c.args.block c.args.n (omega arith) (pos_of_ne-zero c.if-rest-eq0.false)
