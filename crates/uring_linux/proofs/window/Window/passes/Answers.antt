use Rattle.std.proofs.Common.{sym, ◌∙◌}
use Rattle.uring_linux.proofs.WindowLemmas.{not_none, agrees}
use Rattle.uring_linux.proofs.window.Window.passes.Goals as goal

pub returns-in-Some : goal.returns-in-Some
returns-in-Some c = λ r s w. c.passes.ensures ∙ agrees c.args.test _ r c.args.n (s.told c.args.n _ (sym c.in-Some.ensures))

pub returns-in-None : goal.returns-in-None
returns-in-None c = λ r s w. absurd (not_none _ c.args.n w c.in-None.ensures)
