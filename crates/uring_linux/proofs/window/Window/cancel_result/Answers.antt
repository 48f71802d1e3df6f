use Rattle.std.proofs.Common.{true, false, is_some, sym, ◌∙◌, ap}
use Rattle.uring_linux.proofs.Common.{addr_of, is_cancel_all}
use Rattle.uring_linux.proofs.Standings.{cancelled_one}
use Rattle.uring_linux.proofs.window.Window.cancel_result.Goals as goal

pub returns-in-Some : goal.returns-in-Some
returns-in-Some c = λ r s e.
    sym
    (cancelled_one r c.args.n true (ap is_cancel_all (sym e) ∙ sym c.is_cancel_all.ensures ∙ c.if-is_cancel_all.false)
    (ap is_some (sym (c.in-Some.ensures r s (c.addr.ensures ∙ ap addr_of e)))))

pub returns-in-None : goal.returns-in-None
returns-in-None c = λ r s e.
    sym
    (cancelled_one r c.args.n false (ap is_cancel_all (sym e) ∙ sym c.is_cancel_all.ensures ∙ c.if-is_cancel_all.false)
    (ap is_some (sym (c.in-None.ensures r s (c.addr.ensures ∙ ap addr_of e)))))
