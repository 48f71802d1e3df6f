use Rattle.std.proofs.Common.{arith}
use Rattle.uring_enter.proofs.TimesKept.{changed_rows}
use Rattle.uring_enter.proofs.time.times.Times.change.Goals as goal

pub returns : goal.returns
returns c log keeps = record {
  time = keeps.time;
  slept_until = keeps.slept_until;
  posted = keeps.posted;
  expired = keeps.expired;
  within = omega (arith, keeps.within);
  running = changed_rows log c.args.number c.args.more c.count_in-count.result c.args.self.now.count c.later.result c.args.self.now.time c.args.rows.now c.set_expiry.new.rows (c.count_in-count.ensures.count keeps.within) c.set_expiry.ensures c.later.ensures keeps.time keeps.running;
}
