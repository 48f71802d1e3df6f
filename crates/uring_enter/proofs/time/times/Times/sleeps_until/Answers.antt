use Rattle.uring_operations.specs.Entries.Timeouts.{running}
use Rattle.uring_enter.proofs.TimesKept.{earliest_is}
use Rattle.uring_enter.proofs.time.times.Times.sleeps_until.Goals as goal

pub returns : goal.returns
returns c log keeps =
    earliest_is (running log) c.next.result c.args.limit c.earliest_of.result (c.next.ensures log keeps) c.earliest_of.ensures
