use Rattle.std.proofs.Common.{ap, ◌∙◌}
use Rattle.uring_enter.specs.Call.Waits.{wait_of, has_any}
use Rattle.uring_operations.specs.Entries.Timeouts.{running}
use Rattle.uring_enter.proofs.TimesKept.{any_is}
use Rattle.uring_enter.proofs.time.times.Times.wait.Goals as goal

pub returns : goal.returns
returns c log keeps = (
  c.sleeps_until-until.result,
  c.sleeps_until-until.ensures log keeps,
  c.wait_of.ensures
      ∙ ap (λ b. wait_of c.args.sources b c.args.self.now.time c.sleeps_until-until.result) (any_is log c.args.self.now.count c.args.rows.now keeps.within keeps.running)
      ∙ ap (λ t. wait_of c.args.sources (has_any (running log)) t c.sleeps_until-until.result) keeps.time,
)
