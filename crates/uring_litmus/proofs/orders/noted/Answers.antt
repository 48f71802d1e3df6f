use Rattle.std.proofs.Common.{◌≡◌, true, List, ℕ, map, subst, ap, ◌∙◌, rules}
use Rattle.uring_litmus.proofs.Common.{AllZip, IfOk-weaker, IsNoted, order_text, texts_of}
use Rattle.uring_litmus.proofs.OrderCounts.{orders_are}
use Rattle.uring_litmus.proofs.Texts.{zip_same}
use Rattle.uring_litmus.proofs.orders.noted.Goals as goal

pub returns-then-not-form-clause-shown : goal.returns-then-not-form-clause-shown
returns-then-not-form-clause-shown g c =
    zip_same c.args.form.is_sorted (texts_of c.args.each.now) (map order_text c.args.endings.now) (texts_of c.args.lines.items) (search rules)

pub returns-clause-shown : goal.returns-clause-shown
returns-clause-shown g c =
    let sorted : c.args.form.is_sorted ≡ true = search rules in
    rw sorted
    (IfOk-weaker c.note_all-shown.result _ _
    (λ shown noted. subst (λ (orders : List (List ℕ)). AllZip (IsNoted true (texts_of c.args.each.now) orders) (texts_of c.args.lines.items) (texts_of shown.items)) (ap texts_of c.as_slice-2.ensures.value ∙ orders_are c.args.endings.now (texts_of c.in_ok-orders.orders.items) c.in_ok-orders.ensures.lines) (rw c.as_slice.ensures.value at noted))
    c.note_all-shown.ensures.shown)
