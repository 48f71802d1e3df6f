use Rattle.std.proofs.Common.{rules, subst}
use Rattle.std.proofs.lemmas.Int.{to_z-of_z}
use Rattle.std.specs.Int.{w32}
use Rattle.uring_enter.specs.Time.Kept.{KeepsTime}
use Rattle.uring_enter.specs.Waiting.Sleeps.{after_sleep}
use Rattle.uring_ffi.proofs.enter.waiting.sleeper_exports.wulgach_times_wake.Goals as goal

pub returns : goal.returns
returns c log rows keeps =
    subst (λ x. KeepsTime (after_sleep log x c.args.came) c.wake.new.self rows) c.limit.ensures
    (subst (λ n. KeepsTime (after_sleep log c.limit.result n) c.wake.new.self rows) (to_z-of_z w32 c.args.came (search rules)) (c.wake.ensures log rows keeps))
