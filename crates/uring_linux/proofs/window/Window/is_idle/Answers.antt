use Rattle.uring_linux.proofs.Common.{and_left}
use Rattle.uring_linux.proofs.Standings.{outside_ended}
use Rattle.uring_linux.proofs.window.Window.is_idle.Goals as goal

pub returns-in-None : goal.returns-in-None
returns-in-None c = λ r s busy. and_left _ _ (outside_ended _ r c.args.n s c.in-None.ensures)
