use Rattle.std.proofs.Common.{arith}
use Rattle.uring_enter.proofs.TimesKept.{taken_rows}
use Rattle.uring_enter.proofs.time.times.Times.stop.Goals as goal

pub returns : goal.returns
returns c log keeps = record {
  time = keeps.time;
  slept_until = keeps.slept_until;
  posted = keeps.posted;
  expired = keeps.expired;
  within = omega (arith, keeps.within);
  running = taken_rows log c.args.number c.count_in-count.result c.args.self.now.count c.take_out.result c.args.rows.now c.take_out.new.rows (c.count_in-count.ensures.count keeps.within) c.take_out.ensures.rows keeps.running;
}
