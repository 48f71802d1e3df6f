use Rattle.std.proofs.Common.{arith, ◌<◌, length}
use Rattle.uring_volume.proofs.KeptLists.{in_at, none_more}
use Rattle.uring_volume.specs.Past.{can_be_folded}
use Rattle.uring_volume.proofs.kept.first_foldable.Goals as goal
use Rattle.uring_volume.proofs.kept.first_foldable.Goals.{else-k-via-then-k+else-not-has_one_in_way, else-k-via-else-k}

pub returns-then-not-has_one_in_way-clause-found : goal.returns-then-not-has_one_in_way-clause-found
returns-then-not-has_one_in_way-clause-found c =
    let within : c.loop-k.k-index < length c.args.kept.now = omega arith in
    (in_at c.args.kept.now c.loop-k.k-index c.k-item.result within c.k-item.is, grind arith)

pub loop-k-preserved : goal.loop-k-preserved
loop-k-preserved c = elim c.else-k.branch [
  | else-k-via-then-k+else-not-has_one_in_way w ↦ none_more (λ k. can_be_folded c.args.kept.now k) c.args.kept.now c.loop-k.k-index c.k-item.result (omega arith) c.k-item.is (grind arith) c.loop-k.invariant
  | else-k-via-else-k w ↦ none_more (λ k. can_be_folded c.args.kept.now k) c.args.kept.now c.loop-k.k-index c.k-item.result (omega arith) c.k-item.is (grind arith) c.loop-k.invariant
]
