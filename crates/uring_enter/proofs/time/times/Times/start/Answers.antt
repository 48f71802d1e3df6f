use Rattle.std.proofs.Common.{length-set, arith}
use Rattle.uring_operations.specs.Entries.Timeouts.{started, running}
use Rattle.uring_enter.proofs.TimesKept.{started_rows}
use Rattle.uring_enter.proofs.time.times.Times.start.Goals as goal

pub returns-clause-started : goal.returns-clause-started
returns-clause-started c log keeps below = record {
  time = keeps.time;
  slept_until = keeps.slept_until;
  posted = keeps.posted;
  expired = keeps.expired;
  within = omega (arith, length-set c.args.rows.now c.args.self.now.count c.started.result);
  running = started_rows c.args.rows.now c.args.self.now.count c.started.result (started log c.args.start) (running log) (omega arith) keeps.running (c.started.ensures.before log c.args.rows.now keeps below);
}

pub returns-clause-plain : goal.returns-clause-plain
returns-clause-plain c log keeps none = record {
  time = keeps.time;
  slept_until = keeps.slept_until;
  posted = keeps.posted;
  expired = keeps.expired;
  within = omega (arith, length-set c.args.rows.now c.args.self.now.count c.started.result);
  running = started_rows c.args.rows.now c.args.self.now.count c.started.result (started log c.args.start) (running log) (omega arith) keeps.running (c.started.ensures.plain log c.args.rows.now keeps none);
}
