use Rattle.std.proofs.Common.{Some, true, false, sym, ◌∙◌, ap}
use Rattle.uring_entry.specs.Layout.{addr_of}
use Rattle.uring_entry.specs.declared.operation.Op.TheVariants.{Cancel}
use Rattle.uring_linux.specs.LinuxCancels.{told_as}
use Rattle.uring_linux.proofs.Standings.{outside_ended, outstanding_going}
use Rattle.uring_linux.proofs.Reasons.{told_gone, told_faulty, told_healthy, told_other}
use Rattle.uring_linux.proofs.window.Window.would_find.Goals as goal

pub returns-in_default : goal.returns-in_default
returns-in_default c = λ r s. told_gone r c.args.n (outside_ended _ r c.args.n s c.in_default.ensures)

pub returns-in_default-prepare : goal.returns-in_default-prepare
returns-in_default-prepare c = λ r s.
    told_faulty c.in-Some.request.now r c.args.n _ (s.told c.args.n c.in-Some.request.now (sym c.in-Some.ensures)) c.in_default-prepare.ensures.faulty

pub returns-in_default-op : goal.returns-in_default-op
returns-in_default-op c = λ r s.
    let here = sym c.in-Some.ensures in
    told_other r c.args.n c.in-Ok.op c.in_default-op.not-Cancel
    ∙ told_healthy c.in-Some.request.now r c.args.n c.in-Ok.op (s.told c.args.n c.in-Some.request.now here) (outstanding_going _ _ r c.args.n s here c.if-request.false)
    c.in-Ok.ensures.right.0 c.in-Ok.ensures.right.1

pub returns-then-all : goal.returns-then-all
returns-then-all c = λ r s.
    let here = sym c.in-Some.ensures in
    told_healthy c.in-Some.request.now r c.args.n (Cancel c.in-Cancel.target true) (s.told c.args.n c.in-Some.request.now here) (outstanding_going _ _ r c.args.n s here c.if-request.false)
    c.in-Ok.ensures.right.0
    (sym (c.in-Cancel.is ∙ ap (Cancel c.in-Cancel.target) c.if-all.true) ∙ c.in-Ok.ensures.right.1)

pub returns-in-Some-found : goal.returns-in-Some-found
returns-in-Some-found c = λ r s.
    let here = sym c.in-Some.ensures in
    let t = s.told c.args.n c.in-Some.request.now here in
    ap (λ o. Some (told_as o)) (c.in-Some-found.ensures r s (c.addr.ensures ∙ ap addr_of t.entry))
    ∙ told_healthy c.in-Some.request.now r c.args.n (Cancel c.in-Cancel.target false) t (outstanding_going _ _ r c.args.n s here c.if-request.false)
    c.in-Ok.ensures.right.0
    (sym (c.in-Cancel.is ∙ ap (Cancel c.in-Cancel.target) c.if-all.false) ∙ c.in-Ok.ensures.right.1)

pub returns-in-None : goal.returns-in-None
returns-in-None c = λ r s.
    let here = sym c.in-Some.ensures in
    let t = s.told c.args.n c.in-Some.request.now here in
    ap (λ o. Some (told_as o)) (c.in-None.ensures r s (c.addr.ensures ∙ ap addr_of t.entry))
    ∙ told_healthy c.in-Some.request.now r c.args.n (Cancel c.in-Cancel.target false) t (outstanding_going _ _ r c.args.n s here c.if-request.false)
    c.in-Ok.ensures.right.0
    (sym (c.in-Cancel.is ∙ ap (Cancel c.in-Cancel.target) c.if-all.false) ∙ c.in-Ok.ensures.right.1)
