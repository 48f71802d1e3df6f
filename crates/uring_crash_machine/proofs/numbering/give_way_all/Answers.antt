use Rattle.std.proofs.Common.{◌+◌, arith}
use Rattle.uring_volume.proofs.KeptLists.{all_changed, one_changed}
use Rattle.uring_crash_machine.specs.Logs.{unless_last}
use Rattle.uring_crash_machine.proofs.numbering.give_way_all.Goals as goal

pub loop-i-preserved : goal.loop-i-preserved
loop-i-preserved c =
    one_changed (unless_last c.args.n) c.args.numbers.now c.loop-i.numbers c.loop-i.i (c.loop-i.i + 1) _ c.give_way.new.self (omega arith) (omega arith) c.loop-i.invariant c.give_way.ensures

pub returns : goal.returns
returns c = all_changed (unless_last c.args.n) c.args.numbers.now c.loop-i.numbers c.loop-i.i (omega arith) c.loop-i.invariant
