use Rattle.std.proofs.Common.{Some, None, rules}
use Rattle.std.proofs.lemmas.Int.{to_z-of_z}
use Rattle.uring_enter.proofs.Common.{running, w32}
use Rattle.uring_enter.proofs.TimesKept.{row_is, row_is_none, none_runs, none_ends, outcome_told}
use Rattle.uring_enter.proofs.time.times.Times.end.Goals as goal

pub returns-clause-ended : goal.returns-clause-ended
returns-clause-ended c log keeps = (
  c.in_ok-row.row,
  row_is c.args.number (running log) c.row.result c.in_ok-row.row (c.row.ensures log keeps) c.in_ok-row.was,
  rw (to_z-of_z w32 c.in_ok-res.res (search rules)) (outcome_told log c.in_ok-row.row c.args.self.now.posted c.args.self.now.time c.outcome_of.result (Some c.in_ok-res.res) keeps.posted keeps.time c.outcome_of.ensures c.in_ok-res.was),
  c.let_end.ensures log keeps,
)

pub returns-in_err-row-clause-none : goal.returns-in_err-row-clause-none
returns-in_err-row-clause-none c log keeps apart none =
    none_runs log c.args.number
    (row_is_none c.args.number (running log) c.row.result (c.row.ensures log keeps) c.in_err-row.was)

pub returns-in_err-res-clause-none : goal.returns-in_err-res-clause-none
returns-in_err-res-clause-none c log keeps apart none =
    none_ends log c.args.number c.in_ok-row.row apart
    (row_is c.args.number (running log) c.row.result c.in_ok-row.row (c.row.ensures log keeps) c.in_ok-row.was)
    (outcome_told log c.in_ok-row.row c.args.self.now.posted c.args.self.now.time c.outcome_of.result None keeps.posted keeps.time c.outcome_of.ensures c.in_err-res.was)
