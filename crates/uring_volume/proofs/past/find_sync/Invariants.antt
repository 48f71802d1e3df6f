use Rattle.std.proofs.Common.{◌≡◌, false, map, take}
use Rattle.uring_volume.specs.Volume.{is_one_of}
use Rattle.uring_volume.proofs.past.find_sync.Given as goal

abbrev pub invariant-loop-sync : goal.invariant-loop-sync
invariant-loop-sync l = is_one_of l.s (map (λ t. t.number) (take l.sync-index l.syncs)) ≡ false
