use Rattle.uring_linux.proofs.Dispatches.{dispatch_new}
use Rattle.uring_linux.proofs.Tallies.{new_dispatch}
use Rattle.uring_linux.proofs.dispatch.LinuxDispatch.new.Goals as goal

pub returns-clause-shows : goal.returns-clause-shows
returns-clause-shows c = dispatch_new _ _ c.new.ensures c.new-2.ensures

pub invariant_of-result : goal.invariant_of-result
invariant_of-result c = new_dispatch _ _ c.new.ensures c.new-2.ensures
