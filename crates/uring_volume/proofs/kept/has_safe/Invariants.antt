use Rattle.std.proofs.Common.{◌≡◌, ◌==◌, false, take}
use Rattle.std.specs.Prelude.{◌&&◌}
use Rattle.uring_volume.proofs.Common.{list_any}
use Rattle.uring_volume.proofs.kept.has_safe.Given as goal

abbrev pub invariant-loop-k : goal.invariant-loop-k
invariant-loop-k l = list_any (λ k. k.piece.number == l.n && k.safe_yet) (take l.k-index l.kept) ≡ false
