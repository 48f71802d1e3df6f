use Rattle.std.proofs.Common.{arith, ◌<◌, length}
use Rattle.uring_volume.proofs.KeptLists.{in_at, none_more}
use Rattle.uring_volume.specs.Past.{can_be_let_go}
use Rattle.uring_volume.proofs.kept.first_under.Goals as goal
use Rattle.uring_volume.proofs.kept.first_under.Goals.{else-not-k-via-then-not-k+else-has_one_over, else-not-k-via-else-not-k}

pub returns-then-has_one_over-clause-found : goal.returns-then-has_one_over-clause-found
returns-then-has_one_over-clause-found c =
    let within : c.loop-k.k-index < length c.args.kept.now = omega arith in
    (in_at c.args.kept.now c.loop-k.k-index c.k-item.result within c.k-item.is, grind arith)

pub loop-k-preserved : goal.loop-k-preserved
loop-k-preserved c = elim c.else-not-k.branch [
  | else-not-k-via-then-not-k+else-has_one_over w ↦ none_more (λ k. can_be_let_go c.args.kept.now k) c.args.kept.now c.loop-k.k-index c.k-item.result (omega arith) c.k-item.is (grind arith) c.loop-k.invariant
  | else-not-k-via-else-not-k w ↦ none_more (λ k. can_be_let_go c.args.kept.now k) c.args.kept.now c.loop-k.k-index c.k-item.result (omega arith) c.k-item.is (grind arith) c.loop-k.invariant
]
