use Rattle.uring_enter.proofs.TimesKept.{counts_is}
use Rattle.uring_enter.proofs.time.times.Times.has_counted.Goals as goal

pub returns : goal.returns
returns c log keeps apart =
    counts_is log c.args.number c.args.self.now.posted c.row.result c.counted_found.result keeps.posted apart (c.row.ensures log keeps) c.counted_found.ensures
