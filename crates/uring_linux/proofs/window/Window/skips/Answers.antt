use Rattle.uring_linux.proofs.WindowLemmas.{not_none}
use Rattle.uring_linux.proofs.window.Window.skips.Goals as goal

pub returns-in-None : goal.returns-in-None
returns-in-None c = λ r s w. absurd (not_none _ c.args.n w c.in-None.ensures)
