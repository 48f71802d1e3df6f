use Rattle.std.proofs.Common.{sym, ◌∙◌, arith}
use Rattle.uring_linux.proofs.WindowLemmas.{at_low, at_high}
use Rattle.uring_linux.proofs.window.Window.get.Goals as goal

pub returns-then-n-self : goal.returns-then-n-self
returns-then-n-self c = rw (← c.self.view_is) (sym (at_low _ _ (omega arith)))

pub returns-else-n-self : goal.returns-else-n-self
returns-else-n-self c = rw (← c.self.view_is) (c.item.ensures ∙ sym (at_high _ c.args.n c.if-n-self.false))
