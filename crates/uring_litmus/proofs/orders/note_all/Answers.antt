use Rattle.std.proofs.Common.{◌≡◌, ◌++◌, List, ℕ, ap, rules, subst, true, ◌∙◌}
use Rattle.std.specs.Fmt.{decimal}
use Rattle.uring_litmus.proofs.Common.{CountsOrders, IsNoted, codes, texts_of}
use Rattle.uring_litmus.proofs.Texts.{zip_texts}
use Rattle.uring_litmus.proofs.orders.note_all.Goals as goal

has_note : (each orders : List (List ℕ)) (line same shown : List ℕ) (n : ℕ) → same ≡ line → CountsOrders each orders same n
    → shown ≡ same ++ codes "  # orders " ++ decimal n → IsNoted true each orders line shown
has_note each orders line same shown n e counts is =
    (n, subst (λ l. CountsOrders each orders l n) e counts, is ∙ ap (λ l. l ++ codes "  # orders " ++ decimal n) e)

pub loop-line-preserved : goal.loop-line-preserved
loop-line-preserved g c =
    rw c.in_ok-push.ensures.items
    (zip_texts (IsNoted true (texts_of c.args.each.now) (texts_of c.args.orders.now)) c.args.lines.now c.loop-line.shown.items c.loop-line.line-index c.line-item.result c.push_named.new.text (search rules) c.line-item.is c.loop-line.invariant
    (has_note _ _ _ _ _ c.in_ok-count.count c.as_str-line.ensures.value c.in_ok-count.ensures.count
    (c.in_ok-push_named.ensures.bytes ∙ ap (λ l. l ++ codes "  # orders " ++ decimal c.in_ok-count.count) c.in_ok-noted.ensures.bytes)))
