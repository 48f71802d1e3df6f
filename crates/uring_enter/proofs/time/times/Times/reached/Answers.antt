use Rattle.uring_enter.proofs.Common.{IsReachedOf, running, ℕ}
use Rattle.std.proofs.Common.{subst}
use Rattle.uring_enter.proofs.TimesKept.{at_running}
use Rattle.uring_enter.proofs.time.times.Times.reached.Goals as goal

pub returns : goal.returns
returns c log keeps =
    let P : ℕ → Type 0 = λ n. IsReachedOf (running log) n c.reached_of.result in
    subst P keeps.posted
    (at_running (λ l. IsReachedOf l c.args.self.now.posted c.reached_of.result) log c.args.rows.now c.count_in.result c.args.self.now.count (c.count_in.ensures.count keeps.within) keeps.running c.reached_of.ensures)
