use Rattle.std.proofs.Common.{◌≡◌, true, false, Some, ap, sym, ◌∙◌, rules, arith}
use Rattle.uring_litmus.proofs.Common.{length-map, slice_get_within, string_bytes, texts_of}
use Rattle.uring_litmus.proofs.OrderCounts.{none_below, pushed_below, passed_below, all_below, counted, text_at, same_text}
use Rattle.uring_litmus.proofs.orders.count_of.Goals as goal
use Rattle.uring_litmus.proofs.orders.count_of.Goals.{then-at-orders+then-is_same_text+in_ok-push_copy, else-at-orders, else-at-orders-via-then-at-orders+else-is_same_text, else-at-orders-via-else-at-orders}

pub loop-at-init : goal.loop-at-init
loop-at-init g c = λ order.
    none_below (texts_of c.args.each.now) (texts_of c.args.orders.now) c.args.line.now order (texts_of c.new-own.result.items) (ap texts_of c.new-own.ensures.items)

pub loop-at-preserved : goal.loop-at-preserved
loop-at-preserved g c = λ order.
    let at = text_at c.args.each.now c.loop-at.at c.index-each-at.result (search rules) c.index-each-at.is in
    elim c.if-at-orders.branch [
      | then-at-orders+then-is_same_text+in_ok-push_copy w ↦
          rw w.own-is (pushed_below (texts_of c.args.each.now) (texts_of c.args.orders.now) c.args.line.now (string_bytes w.index-orders-at.result) order c.loop-at.at (texts_of c.loop-at.own.items) _
          (at ∙ ap Some ((rw w.as_str.ensures.value at w.is_same_text.ensures).0 w.if-is_same_text.true)) (text_at c.args.orders.now c.loop-at.at w.index-orders-at.result w.if-at-orders.true w.index-orders-at.is)
          (rw w.as_str-then-is_same_text.ensures.value at w.in_ok-push_copy.ensures.copies) (c.loop-at.invariant order))
      | else-at-orders w ↦
          rw w.own-is (passed_below (texts_of c.args.each.now) (texts_of c.args.orders.now) c.args.line.now order c.loop-at.at (texts_of c.loop-at.own.items)
          (λ is there. elim w.else-at-orders.branch [
            | else-at-orders-via-then-at-orders+else-is_same_text v ↦ (let no : false ≡ true = sym v.if-is_same_text.false ∙ (rw v.as_str.ensures.value at v.is_same_text.ensures).1 (same_text (sym at ∙ is)) in cc)
            | else-at-orders-via-else-at-orders v ↦ (let low = slice_get_within (texts_of c.args.orders.now) c.loop-at.at order there in let past = v.if-at-orders.false in omega (arith, low, past, length-map c.args.orders.now string_bytes))
          ]) (c.loop-at.invariant order))
    ]

pub returns-clause-count : goal.returns-clause-count
returns-clause-count g c =
    counted (texts_of c.args.each.now) (texts_of c.args.orders.now) c.args.line.now c.loop-at.own.items c.sort_once.new.lines.items _
    (λ order. all_below (texts_of c.args.each.now) (texts_of c.args.orders.now) c.args.line.now order c.loop-at.at (texts_of c.loop-at.own.items) (omega (arith, length-map c.args.each.now string_bytes)) (c.loop-at.invariant order))
    c.sort_once.ensures (search rules)
