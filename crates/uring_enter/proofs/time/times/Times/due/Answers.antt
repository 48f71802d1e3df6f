use Rattle.uring_enter.proofs.TimesKept.{due_is}
use Rattle.uring_enter.proofs.time.times.Times.due.Goals as goal

pub returns : goal.returns
returns c log keeps =
    due_is log c.args.self.now.time c.next.result c.due_of.result keeps.time (c.next.ensures log keeps) c.due_of.ensures
