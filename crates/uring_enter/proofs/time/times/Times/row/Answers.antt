use Rattle.uring_enter.proofs.Common.{HasNone, IsRow, MatchOption}
use Rattle.uring_enter.proofs.TimesKept.{at_running}
use Rattle.uring_enter.proofs.time.times.Times.row.Goals as goal

pub returns : goal.returns
returns c log keeps =
    at_running (λ l. MatchOption c.row_of.result (HasNone c.args.number l) (IsRow c.args.number l)) log c.args.rows.now c.count_in.result c.args.self.now.count (c.count_in.ensures.count keeps.within) keeps.running c.row_of.ensures
