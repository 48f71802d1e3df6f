use Rattle.std.proofs.Common.{map, sym, ap, ◌∙◌}
use Rattle.uring_volume.proofs.Common.{cond-true, list_any, nat_eq, pointwise, take_all, false≢true}
use Rattle.uring_volume.proofs.Seeking.{none_more, one_is, put_new, on_ok}
use Rattle.uring_volume.proofs.ways.put_bytes.Goals as goal

pub loop-one-preserved : goal.loop-one-preserved
loop-one-preserved g c =
    none_more (λ b. b.items) (λ y. pointwise nat_eq y c.args.bytes.now) c.deref-one-items.result.now c.loop-one.one-index c.one-item.result c.loop-one-test.true c.one-item.is
    (ap (λ bs. pointwise nat_eq bs c.args.bytes.now) (sym c.as_slice.ensures.value) ∙ sym c.eq.ensures ∙ c.if-eq.false) c.loop-one.invariant

pub returns-then-eq-clause-put : goal.returns-then-eq-clause-put
returns-then-eq-clause-put g c =
    sym (cond-true _ _ _ (ap (λ xs. list_any (λ y. pointwise nat_eq y c.args.bytes.now) (map (λ b. b.items) xs)) (sym c.deref-one-items.ensures.value)
    ∙ one_is (λ b. b.items) (λ y. pointwise nat_eq y c.args.bytes.now) c.deref-one-items.result.now c.loop-one.one-index c.one-item.result c.loop-one-test.true c.one-item.is
    (ap (λ bs. pointwise nat_eq bs c.args.bytes.now) (sym c.as_slice.ensures.value) ∙ sym c.eq.ensures ∙ c.if-eq.true)))

pub returns-clause-put : goal.returns-clause-put
returns-clause-put g c =
    let all = take_all c.loop-one.one-index c.deref-one-items.result.now c.loop-one-test.false ∙ c.deref-one-items.ensures.value in
    on_ok c.push.result _ _ (λ pushed. put_new (λ b. b.items) (pointwise nat_eq) c.args.found.now.items c.push.new.list.items c.in_ok-copy.copy c.args.bytes.now c.in_ok-copy.ensures.bytes
    (ap (λ xs. list_any (λ y. pointwise nat_eq y c.args.bytes.now) (map (λ b. b.items) xs)) (sym all) ∙ c.loop-one.invariant) pushed) c.push.ensures.items

pub returns-in_err-copy-clause-granted : goal.returns-in_err-copy-clause-granted
returns-in_err-copy-clause-granted g c = λ all. absurd (false≢true (c.in_err-copy.ensures.granted all))
