use Rattle.std.proofs.Common.{◌+◌, arith}
use Rattle.uring_volume.specs.Past.{ended_at}
use Rattle.uring_volume.proofs.KeptLists.{all_changed, one_changed}
use Rattle.uring_volume.proofs.kept.end_all.Goals as goal

pub loop-i-preserved : goal.loop-i-preserved
loop-i-preserved c =
    one_changed (ended_at c.args.n c.args.next c.args.has_failed) c.args.kept.now c.loop-i.kept c.loop-i.i (c.loop-i.i + 1) c.index-kept-i.result c.end.new.self (omega arith) (omega arith) c.loop-i.invariant c.end.ensures

pub returns : goal.returns
returns c = all_changed (ended_at c.args.n c.args.next c.args.has_failed) c.args.kept.now c.loop-i.kept c.loop-i.i (omega arith) c.loop-i.invariant
