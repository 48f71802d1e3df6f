use Rattle.std.proofs.Common.{sym, ◌∙◌}
use Rattle.uring_dispatch.proofs.HeldLemmas.{running_none, running_some}
use Rattle.uring_dispatch.proofs.Views.{held_from, operation_none, operation_some}
use Rattle.uring_dispatch.proofs.dispatch.Dispatch.running_op.Goals as goal

pub returns-in_default : goal.returns-in_default
returns-in_default c = λ r s.
    operation_none r c.args.n (running_none (held_from _ _ c.self.inside.outstanding.grouped.groups _ _ r c.self.view_is s) _ (sym c.in_default.ensures))

pub returns-then-request : goal.returns-then-request
returns-then-request c = λ r s.
    operation_some _ c.self.inside.outstanding.grouped.groups r c.args.n c.in-Some.request.now (held_from _ _ c.self.inside.outstanding.grouped.groups _ _ r c.self.view_is s) (sym c.in-Some.ensures) c.if-request.true

pub returns-else-request : goal.returns-else-request
returns-else-request c = λ r s.
    operation_none r c.args.n (running_some (held_from _ _ c.self.inside.outstanding.grouped.groups _ _ r c.self.view_is s) _ (sym c.in-Some.ensures) ∙ c.if-request.false)
