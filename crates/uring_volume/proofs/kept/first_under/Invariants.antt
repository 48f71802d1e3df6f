use Rattle.std.proofs.Common.{◌≡◌, false, take}
use Rattle.uring_volume.proofs.Common.{list_any}
use Rattle.uring_volume.specs.Past.{can_be_let_go}
use Rattle.uring_volume.proofs.kept.first_under.Given as goal

abbrev pub invariant-loop-k : goal.invariant-loop-k
invariant-loop-k l = list_any (λ k. can_be_let_go l.kept k) (take l.k-index l.kept) ≡ false
