use Rattle.std.proofs.Common.{arith}
use Rattle.uring_volume.proofs.KeptLists.{in_default}
use Rattle.uring_volume.proofs.past.find_sync.Goals as goal

pub returns-then-sync-s-clause-found : goal.returns-then-sync-s-clause-found
returns-then-sync-s-clause-found c =
    (in_default c.args.syncs.now c.loop-sync.sync-index _ (omega arith), c.if-sync-s.true)
