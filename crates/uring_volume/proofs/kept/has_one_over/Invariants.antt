use Rattle.std.proofs.Common.{◌≡◌, false, take}
use Rattle.uring_volume.proofs.Common.{list_any}
use Rattle.uring_volume.specs.Past.{stands_over}
use Rattle.uring_volume.proofs.kept.has_one_over.Given as goal

abbrev pub invariant-loop-m : goal.invariant-loop-m
invariant-loop-m l = list_any (λ m. stands_over l.k m) (take l.m-index l.kept) ≡ false
