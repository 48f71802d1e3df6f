use Rattle.std.proofs.Common.{[], ◌∷◌, take, ◌++◌, arith, ap, sym, subst, ◌∙◌}
use Rattle.uring_crash_outcomes.proofs.Common.{AreShown, IsCrowdedBy, take_more}
use Rattle.uring_crash_outcomes.proofs.Showing.{shown_first, shown_more, crowded, err_told}
use Rattle.uring_crash_outcomes.proofs.crash.crashes_of.Goals as goal

pub loop-log-init : goal.loop-log-init
loop-log-init g c = subst (AreShown c.args.posted.now []) (sym c.in_ok-crashes.ensures.crashes) (shown_first c.args.posted.now)

pub loop-log-preserved : goal.loop-log-preserved
loop-log-preserved g c =
    let logs = c.args.logs.now in
    let k = c.loop-log.log-index in
    let more = take_more logs k c.log-item.result (omega arith) ∙ ap (λ y. take k logs ++ y ∷ []) (sym c.log-item.is) in
    subst (λ ls. AreShown c.args.posted.now ls c.widen.new.crashes.items) (sym more)
    (shown_more c.args.posted.now (take k logs) c.log-item.result c.loop-log.crashes.items c.widen.new.crashes.items c.loop-log.invariant c.in_ok-widen.ensures.wider)

pub returns-in_err-widen-clause-fault : goal.returns-in_err-widen-clause-fault
returns-in_err-widen-clause-fault g c =
    err_told c.from_residual-in_err-widen.result (IsCrowdedBy c.args.logs.now c.args.most) c.in_err-widen.field-0.0 c.from_residual-in_err-widen.ensures.1
    (crowded c.args.logs.now c.loop-log.log-index c.log-item.result c.args.most c.in_err-widen.field-0.0 (omega arith) c.log-item.is c.in_err-widen.ensures.fault)
