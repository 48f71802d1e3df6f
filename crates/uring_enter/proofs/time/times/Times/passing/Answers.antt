use Rattle.uring_enter.proofs.TimesKept.{passing_is}
use Rattle.uring_enter.proofs.time.times.Times.passing.Goals as goal

pub returns : goal.returns
returns c log keeps =
    passing_is log c.args.sources c.next.result c.args.self.now.time c.passing_of.result (c.next.ensures log keeps) keeps.time c.passing_of.ensures
