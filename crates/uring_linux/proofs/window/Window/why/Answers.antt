use Rattle.std.proofs.Common.{true, false, refl, sym, ◌∙◌, arith}
use Rattle.std.proofs.lemmas.Bool.{lt-ltb}
use Rattle.uring_linux.proofs.WindowEvents.{at_within}
use Rattle.uring_linux.proofs.Reasons.{gone_ended, told_why}
use Rattle.uring_linux.proofs.window.Window.why.Goals as goal

pub returns-then-n-end : goal.returns-then-n-end
returns-then-n-end c = λ l s e.
    told_why l c.args.n true true _ (lt-ltb _ _ (omega (arith, s.count))) (gone_ended _ l.requests c.args.n s c.in_default.ensures (omega arith)) refl

pub returns : goal.returns
returns c = λ l s e.
    let here = sym c.in-Some.ensures in
    let t = s.told c.args.n c.in-Some.request.now here in
    let w = at_within _ c.args.n c.in-Some.request.now here in
    c.waiting.ensures l s e
    ∙ told_why l c.args.n true false false (lt-ltb _ _ (omega (arith, w.high, s.count))) (sym t.ended ∙ c.if-request.false) (sym t.running ∙ c.if-request-2.false)
