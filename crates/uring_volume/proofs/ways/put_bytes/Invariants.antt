use Rattle.std.proofs.Common.{◌≡◌, false, map, take}
use Rattle.uring_volume.proofs.Common.{list_any, nat_eq, pointwise}
use Rattle.uring_volume.proofs.ways.put_bytes.Given as goal

abbrev pub invariant-loop-one : goal.invariant-loop-one
invariant-loop-one g l =
    list_any (λ y. pointwise nat_eq y l.bytes) (map (λ b. b.items) (take l.one-index l.one-items)) ≡ false
