use Rattle.std.proofs.Common.{map, refl, sym, ap, ◌∙◌}
use Rattle.uring_volume.proofs.Common.{list_any, same_way, way}
use Rattle.uring_volume.proofs.Seeking.{put_new, on_ok}
use Rattle.uring_volume.proofs.ways.put_way.Goals as goal

pub returns-clause-put : goal.returns-clause-put
returns-clause-put g c =
    on_ok c.push.result _ _ (λ pushed. put_new (λ s. way (map (λ p. p.now) s.rest.items) s.now.items) same_way c.args.ways.now.items c.push.new.list.items c.args.way (way (map (λ p. p.now) c.args.way.rest.items) c.args.way.now.items) refl
    (ap (λ xs. list_any (λ z. same_way z (way (map (λ p. p.now) c.args.way.rest.items) c.args.way.now.items)) (map (λ s. way (map (λ p. p.now) s.rest.items) s.now.items) xs)) (sym c.deref.ensures.value)
    ∙ ap (λ bs. list_any (λ z. same_way z (way (map (λ p. p.now) c.args.way.rest.items) bs)) (map (λ s. way (map (λ p. p.now) s.rest.items) s.now.items) c.deref.result.now)) (sym c.deref-3.ensures.value)
    ∙ ap (λ ps. list_any (λ z. same_way z (way (map (λ p. p.now) ps) c.deref-3.result.now)) (map (λ s. way (map (λ p. p.now) s.rest.items) s.now.items) c.deref.result.now)) (sym c.deref-2.ensures.value)
    ∙ sym c.has_way.ensures ∙ c.if-has_way.false) pushed) c.push.ensures.items
