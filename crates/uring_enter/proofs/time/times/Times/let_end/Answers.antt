use Rattle.std.proofs.Common.{arith, ap, ◌∙◌}
use Rattle.uring_operations.specs.Entries.Timeouts.{expired_with}
use Rattle.uring_enter.proofs.TimesKept.{taken_rows}
use Rattle.uring_enter.proofs.time.times.Times.let_end.Goals as goal

pub returns : goal.returns
returns c log keeps = record {
  time = keeps.time;
  slept_until = keeps.slept_until;
  posted = keeps.posted;
  expired = c.expired_with-self.ensures ∙ ap (λ n. expired_with n c.args.row.is_linked) keeps.expired;
  within = omega (arith, keeps.within);
  running = taken_rows log c.args.row.number c.count_in-count.result c.args.self.now.count c.take_out.result c.args.rows.now c.take_out.new.rows (c.count_in-count.ensures.count keeps.within) c.take_out.ensures.rows keeps.running;
}
