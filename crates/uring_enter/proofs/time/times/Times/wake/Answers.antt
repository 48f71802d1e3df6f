use Rattle.std.proofs.Common.{rules, subst}
use Rattle.std.proofs.lemmas.Int.{to_z-of_z}
use Rattle.uring_enter.proofs.Common.{KeepsTime, w32}
use Rattle.uring_enter.specs.Waiting.Sleeps.{after_end, reached}
use Rattle.uring_enter.proofs.time.times.Times.wake.Goals as goal

pub returns : goal.returns
returns c log rows keeps =
    subst (λ n. KeepsTime (after_end log (reached c.args.end n)) c.come_to.new.self rows) (to_z-of_z w32 c.args.came (search rules))
    (subst (λ x. KeepsTime (after_end log x) c.come_to.new.self rows) c.reached.ensures (c.come_to.ensures log rows keeps))
