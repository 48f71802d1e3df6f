use Rattle.std.proofs.Common.{◌≡◌, true, false, sym, ◌∙◌, rules, arith}
use Rattle.uring_litmus.proofs.Common.{AreAmong, texts_of}
use Rattle.uring_litmus.proofs.Among.{one_part, last_part, none_wanted, met_at, unmet_at}
use Rattle.uring_litmus.proofs.claims.shows.Goals as goal
use Rattle.uring_litmus.proofs.claims.shows.Goals.{then-is_same_text, else-is_same_text}

pub returns-in_default : goal.returns-in_default
returns-in_default c =
    none_wanted c.loop-part.wanted.now _ (AreAmong (texts_of c.args.line.now) (texts_of c.args.parts.now)) (omega arith) c.loop-part.invariant

pub loop-part-preserved : goal.loop-part-preserved
loop-part-preserved c =
    one_part c.args.parts.now c.loop-part.part-index c.part-item.result (texts_of c.loop-part.wanted.now) _ (AreAmong (texts_of c.args.line.now) (texts_of c.args.parts.now)) (search rules) c.part-item.is c.loop-part.invariant
    (λ after. elim c.if-is_same_text.branch [
      | then-is_same_text w ↦ rw w.wanted-is (met_at c.loop-part.wanted.now c.first-item.result _ after (omega arith) c.first-item.is ((rw (c.as_str.ensures.value, c.as_str-in-loop-part.ensures.value) at c.is_same_text.ensures).0 w.if-is_same_text.true))
      | else-is_same_text w ↦ rw w.wanted-is (unmet_at c.loop-part.wanted.now c.first-item.result _ after (omega arith) c.first-item.is (λ same. let no : false ≡ true = sym w.if-is_same_text.false ∙ (rw (c.as_str.ensures.value, c.as_str-in-loop-part.ensures.value) at c.is_same_text.ensures).1 same in cc))
    ])

pub returns : goal.returns
returns c =
    last_part c.args.parts.now c.loop-part.wanted.now c.loop-part.part-index (AreAmong (texts_of c.args.line.now) (texts_of c.args.parts.now)) c.is_empty.result (omega arith) c.is_empty.ensures c.loop-part.invariant
