use Rattle.std.proofs.Common.{◌≡◌, false, take}
use Rattle.uring_volume.proofs.Common.{list_any}
use Rattle.uring_volume.specs.Past.{stands_in_way}
use Rattle.uring_volume.proofs.kept.has_one_in_way.Given as goal

abbrev pub invariant-loop-m : goal.invariant-loop-m
invariant-loop-m l = list_any (λ m. stands_in_way l.k m) (take l.m-index l.kept) ≡ false
