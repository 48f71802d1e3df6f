use Rattle.std.proofs.Common.{◌≡◌, ◌-◌, true, false, Some, ap, sym, ◌∙◌, inl, inr, rules, arith}
use Rattle.uring_litmus.proofs.Common.{length-map, string_bytes, texts_of}
use Rattle.uring_litmus.proofs.OrderCounts.{text_at}
use Rattle.uring_litmus.proofs.Places.{at_place}
use Rattle.uring_litmus.proofs.Verdicts.{not_before, not_yet, not_at_all}
use Rattle.uring_litmus.proofs.judging.place_by.Goals as goal

pub returns-then-number-eq0 : goal.returns-then-number-eq0
returns-then-number-eq0 c = record {
  many = omega (arith, length-map c.args.lines.now string_bytes);
  past = inl (search rules);
}

pub returns-then-at-count : goal.returns-then-at-count
returns-then-at-count c = record {
  many = omega (arith, length-map c.args.lines.now string_bytes);
  past = inr (omega arith);
}

pub loop-place-init : goal.loop-place-init
loop-place-init c = not_yet _

pub returns-then-is_same_text : goal.returns-then-is_same_text
returns-then-is_same_text c = (
  string_bytes c.index-lines-at.result,
  omega arith,
  text_at c.args.lines.now (c.args.number - 1) c.index-lines-at.result (search rules) c.index-lines-at.is,
  text_at c.args.each.now c.loop-place.place c.index-each-place.result (search rules) c.index-each-place.is ∙ ap Some ((rw (c.as_str.ensures.value, c.as_str-line.ensures.value) at c.is_same_text.ensures).0 c.if-is_same_text.true),
)

pub loop-place-preserved : goal.loop-place-preserved
loop-place-preserved c =
    not_before c.args.each.now c.loop-place.place c.index-each-place.result _ (search rules) c.index-each-place.is c.loop-place.invariant
    (λ same. let no : false ≡ true = sym c.if-is_same_text.false ∙ (rw c.as_str.ensures.value at c.is_same_text.ensures).1 same in cc)

pub returns : goal.returns
returns c =
    let lines = texts_of c.args.lines.now in
    let at = text_at c.args.lines.now (c.args.number - 1) c.index-lines-at.result (search rules) c.index-lines-at.is in
    absurd (not_at_all c.args.each.now c.loop-place.place _ (omega arith) (rw c.as_str-line.ensures.value at c.loop-place.invariant) (c.requires.right _ (at_place lines (c.args.number - 1) _ at)))
