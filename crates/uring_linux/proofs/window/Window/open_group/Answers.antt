use Rattle.std.proofs.Common.{arith}
use Rattle.uring_linux.proofs.WindowLemmas.{not_none}
use Rattle.uring_linux.proofs.window.Window.open_group.Goals as goal

pub returns-in_default : goal.returns-in_default
returns-in_default c = λ r h.
    absurd (not_none _ _ (record { low = omega arith; high = omega arith }) c.in_default.ensures)
