use Rattle.std.proofs.Common.{◌≡◌, false, true, refl, sym, subst, ap, ◌∙◌, arith}
use Rattle.uring_outcomes.proofs.Common.{AreUnnamed, among, take_all}
use Rattle.uring_outcomes.proofs.NextCalls.{unnamed_more, one_named}
use Rattle.uring_outcomes.proofs.next.are_unnamed.Goals as goal

pub loop-entry-preserved : goal.loop-entry-preserved
loop-entry-preserved c =
    unnamed_more c.args.names.now c.args.entries.now c.loop-entry.entry-index c.entry-item.result (omega arith) c.entry-item.is
    (ap (among c.args.names.now) (sym c.user_data.ensures) ∙ (sym c.contains.ensures.value ∙ c.if-contains.false)) c.loop-entry.invariant

pub returns-then-contains : goal.returns-then-contains
returns-then-contains c = (
  λ no. absurd (let f : false ≡ true = no in cc),
  λ none. absurd (one_named c.args.names.now c.args.entries.now c.loop-entry.entry-index c.entry-item.result (omega arith) c.entry-item.is (ap (among c.args.names.now) (sym c.user_data.ensures) ∙ (sym c.contains.ensures.value ∙ c.if-contains.true)) none),
)

pub returns : goal.returns
returns c = (
  λ so. subst (AreUnnamed (among c.args.names.now)) (take_all c.loop-entry.entry-index c.args.entries.now (omega arith)) c.loop-entry.invariant,
  λ none. refl,
)
