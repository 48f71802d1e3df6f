use Rattle.std.proofs.Common.{◌≡◌, true, false, refl, sym, subst, ◌∙◌, arith, All}
use Rattle.std.proofs.lemmas.List.{take_all}
use Rattle.uring_litmus.specs.Parts.{texts_of}
use Rattle.uring_litmus.specs.Wanted.{IsPart}
use Rattle.uring_litmus.proofs.LineParts.{part_more, none_at}
use Rattle.uring_litmus.proofs.wanted.parts_of_line_in.Goals as goal

pub returns-then-not-branch-clause-parts : goal.returns-then-not-branch-clause-parts
returns-then-not-branch-clause-parts g c = (
  texts_of c.in_ok-parts.parts.items,
  c.in_ok-parts.ensures.parts,
  subst (λ l. All IsPart (texts_of l) → ⊥) c.as_slice-part-items.ensures.value
      (none_at c.as_slice-part-items.result.now c.loop-part.part-index c.part-item.result (omega arith) c.part-item.is
      (λ is. let no : false ≡ true = sym c.if-not-branch.true ∙ c.in_ok-is_part.ensures.part.1 (subst IsPart (sym c.as_str.ensures.value) is) in cc)),
)

pub loop-part-preserved : goal.loop-part-preserved
loop-part-preserved g c =
    part_more c.as_slice-part-items.result.now c.loop-part.part-index c.part-item.result (omega arith) c.part-item.is c.loop-part.invariant
    (subst IsPart c.as_str.ensures.value (c.in_ok-is_part.ensures.part.0 c.if-not-branch.false))

pub returns-clause-parts : goal.returns-clause-parts
returns-clause-parts g c = (
  texts_of c.in_ok-parts.parts.items,
  c.in_ok-parts.ensures.parts,
  (refl, subst (λ l. All IsPart (texts_of l)) (take_all c.loop-part.part-index c.as_slice-part-items.result.now (omega arith) ∙ c.as_slice-part-items.ensures.value) c.loop-part.invariant),
)
