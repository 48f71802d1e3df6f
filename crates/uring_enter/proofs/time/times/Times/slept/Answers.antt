use Rattle.std.proofs.Common.{◌∷◌, subst}
use Rattle.uring_enter.proofs.Common.{Clock, KeepsTime}
use Rattle.uring_enter.proofs.time.times.Times.slept.Goals as goal

pub returns-then-is_real : goal.returns-then-is_real
returns-then-is_real c log rows keeps =
    rw c.if-is_real.true (subst (λ now. KeepsTime (Clock now ∷ log) c.move_to.new.self rows) c.left_until.ensures (c.move_to.ensures log rows keeps))

pub returns-else-is_real : goal.returns-else-is_real
returns-else-is_real c log rows keeps = rw c.if-is_real.false (c.sleep.ensures log rows keeps)
