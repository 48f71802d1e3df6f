use Rattle.std.proofs.Common.{sym, ◌∙◌, arith}
use Rattle.uring_linux.proofs.PassedOver.{after_passed}
use Rattle.uring_linux.proofs.window.Window.next_after.Goals as goal

pub returns-clause-skipped : goal.returns-clause-skipped
returns-clause-skipped c = λ r k h after lt.
    let here = sym c.in-Some.ensures in
    after_passed r c.args.n k c.group_of-group.result (c.group_of-group.ensures.member r c.args.n h here)
    (sym (h.told c.args.n c.in-Some.request.now here).ended ∙ c.if-request.false) after (omega arith)
