use Rattle.uring_litmus.proofs.Common.{IfOk-weaker, string_bytes}
use Rattle.uring_litmus.proofs.Listed.{list_text}
use Rattle.uring_litmus.proofs.listing.text_of.Goals as goal

pub returns-clause-text : goal.returns-clause-text
returns-clause-text g c =
    IfOk-weaker c.listed-text.result _ _
    (λ text is. list_text c.args.form c.args.endings.now c.args.is_all c.args.most c.in_ok-each.each.items c.in_ok-lines.lines.items c.in_ok-shown.shown.items (string_bytes text) c.in_ok-each.ensures.lines (rw c.as_slice.ensures.value at c.in_ok-lines.ensures.lines) (rw c.as_slice-2.ensures.value at c.in_ok-shown.ensures.shown) (rw c.as_slice-3.ensures.value at is))
    c.listed-text.ensures.text
