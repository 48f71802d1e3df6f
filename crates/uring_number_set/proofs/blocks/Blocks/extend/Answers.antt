use Rattle.std.proofs.Common.{refl, ap, arith, ◌∙◌}
use Rattle.uring_number_set.specs.NumberSet.{block_of}
use Rattle.uring_number_set.proofs.BlockLemmas.{block_of_push}
use Rattle.uring_number_set.proofs.blocks.Blocks.extend.Goals as goal

pub returns-clause-same : goal.returns-clause-same
returns-clause-same c =
    rw (← c.self.view_is) (record {
      same = (λ i. ap (λ bs. block_of c.self.inside.first bs i) c.push_reserved.ensures.items ∙ block_of_push c.self.inside.first c.self.inside.blocks.items i);
      limit = omega arith;
    })
