use Rattle.std.proofs.Common.{Some, None, true, false, sym, ◌∙◌, ap}
use Rattle.uring_dispatch.proofs.Common.{Cancel, addr_of}
use Rattle.uring_dispatch.proofs.Views.{finds_by, finds_other}
use Rattle.uring_dispatch.proofs.grouped.Grouped.would_find.Goals as goal

pub returns-in_default-op : goal.returns-in_default-op
returns-in_default-op c = λ r h. finds_by _ _ r c.args.n c.in-Some.request.now None c.args.self.now.fits h (sym c.in-Some.ensures) c.in_default-op.is

pub returns-in_default-op-2 : goal.returns-in_default-op-2
returns-in_default-op-2 c = λ r h.
    finds_other r c.args.n c.in-Some-op.op c.in_default-op-2.not-Cancel
    ∙ finds_by _ _ r c.args.n c.in-Some.request.now (Some c.in-Some-op.op) c.args.self.now.fits h (sym c.in-Some.ensures) c.in-Some-op.is

pub returns-then-all : goal.returns-then-all
returns-then-all c = λ r h.
    finds_by _ _ r c.args.n c.in-Some.request.now (Some (Cancel c.in-Cancel.target true)) c.args.self.now.fits h (sym c.in-Some.ensures)
    (c.in-Some-op.is ∙ ap Some c.in-Cancel.is ∙ ap (λ b. Some (Cancel c.in-Cancel.target b)) c.if-all.true)

pub returns : goal.returns
returns c = λ r h.
    ap Some (c.find.ensures r h (c.addr.ensures ∙ ap addr_of (h.shown c.args.n c.in-Some.request.now (sym c.in-Some.ensures)).entry))
    ∙ finds_by _ _ r c.args.n c.in-Some.request.now (Some (Cancel c.in-Cancel.target false)) c.args.self.now.fits h (sym c.in-Some.ensures)
    (c.in-Some-op.is ∙ ap Some c.in-Cancel.is ∙ ap (λ b. Some (Cancel c.in-Cancel.target b)) c.if-all.false)
