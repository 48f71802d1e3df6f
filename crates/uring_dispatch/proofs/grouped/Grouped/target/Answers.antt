use Rattle.std.proofs.Common.{sym, ◌∙◌, arith, inl, inr}
use Rattle.uring_dispatch.proofs.Common.{cases_lt, target_of_none, target_of_some}
use Rattle.uring_dispatch.proofs.ByData.{outside}
use Rattle.uring_dispatch.proofs.WindowFront.{within_end}
use Rattle.uring_dispatch.proofs.grouped.Grouped.target.Goals as goal

pub returns-then-is_candidate-clause-target : goal.returns-then-is_candidate-clause-target
returns-then-is_candidate-clause-target c = λ r h e.
    sym
    (target_of_some r _ c.loop-m.m (omega (arith, h.count, within_end _ c.loop-m.m (c.is_candidate.ensures.there c.if-is_candidate.true))) (sym (c.is_candidate.ensures.candidate r h e) ∙ c.if-is_candidate.true)
    (c.loop-m.invariant r h e))

pub returns-clause-target : goal.returns-clause-target
returns-clause-target c = λ r h e.
    sym
    (target_of_none r _
    (λ m lt.
    elim (cases_lt m c.loop-m.m) [
      | inl low ↦ c.loop-m.invariant r h e m low
      | inr past ↦ outside _ _ r c.args.n m c.args.user_data c.args.span.from c.args.span.to h e c.requires (inr (omega (arith, past)))
    ]))
