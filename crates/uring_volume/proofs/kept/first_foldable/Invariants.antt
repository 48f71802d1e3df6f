use Rattle.std.proofs.Common.{◌≡◌, false, take}
use Rattle.uring_volume.proofs.Common.{list_any}
use Rattle.uring_volume.specs.Past.{can_be_folded}
use Rattle.uring_volume.proofs.kept.first_foldable.Given as goal

abbrev pub invariant-loop-k : goal.invariant-loop-k
invariant-loop-k l = list_any (λ k. can_be_folded l.kept k) (take l.k-index l.kept) ≡ false
