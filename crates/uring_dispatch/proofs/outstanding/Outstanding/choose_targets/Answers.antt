use Rattle.std.proofs.Common.{ℕ, refl, inl, inr, sym, ◌∙◌, ap, subst, List, length, arith}
use Rattle.uring_dispatch.proofs.Common.{Shows, and_left, cases_lt, with_cancelled}
use Rattle.uring_dispatch.proofs.Choosing.{chosen_noted, chosen_nobody, chosen_both, chosen_none, chosen_more, chosen_past, chosen_all}
use Rattle.uring_dispatch.proofs.HeldLemmas.{candidate_none}
use Rattle.uring_dispatch.proofs.ByData.{spans_noted, outside}
use Rattle.uring_dispatch.proofs.outstanding.Outstanding.choose_targets.Goals as goal
use Rattle.uring_dispatch.proofs.outstanding.Outstanding.choose_targets.Goals.{then-is_target, else-is_target}

pub loop-m-init : goal.loop-m-init
loop-m-init c =
    let spans = spans_noted _ _ c.args.user_data _ _ c.fill.ensures.found c.fill.ensures.full c.fill.ensures.fits c.span-span.ensures in
    chosen_none _ _ c.args.n c.args.user_data c.min-from.result refl (chosen_nobody _)
    (λ r h named k lt.
    and_left _ _
    (elim (cases_lt k c.first-first.result) [
      | inl low ↦ candidate_none h c.args.n _ (c.first-first.ensures.before k low)
      | inr high ↦ outside _ _ r c.args.n k c.args.user_data _ _ h named spans (inl (omega (arith, lt, high)))
    ]))

pub loop-m-preserved : goal.loop-m-preserved
loop-m-preserved c =
    elim c.if-is_target.branch [
      | then-is_target w ↦
          rw (w.self-is, w.count-is)
          (chosen_more c.loop-m.invariant
          (λ r h named. sym w.if-is_target.true ∙ c.is_target.ensures.target r h named)
          w.choose.ensures.chosen w.choose.ensures.shows)
      | else-is_target w ↦
          rw (w.self-is, w.count-is)
          (chosen_past c.loop-m.invariant
          (λ r h named. sym w.if-is_target.false ∙ c.is_target.ensures.target r h named))
    ]

pub returns-clause-count : goal.returns-clause-count
returns-clause-count c = λ r h named.
    c.loop-m.invariant.count_is r h named
    ∙ ap (λ (xs : List ℕ). length xs) (chosen_all r c.args.n c.loop-m.m (omega (arith, h.count, c.end-end.ensures.value)))

pub returns-clause-shows : goal.returns-clause-shows
returns-clause-shows c = λ r h named.
    subst (λ xs. Shows c.loop-m.self.grouped (with_cancelled r xs)) (chosen_all r c.args.n c.loop-m.m (omega (arith, h.count, c.end-end.ensures.value)))
    (c.loop-m.invariant.shows r h named)

pub returns-clause-chosen : goal.returns-clause-chosen
returns-clause-chosen c =
    chosen_both _ _ _ (chosen_noted c.args.self.now _ refl refl refl c.args.self.now.by_user_data c.fill.new.self refl refl c.fill.ensures.places) c.loop-m.invariant.chosen
