use Rattle.std.proofs.Common.{rules, ◌≡◌, length, map, sym, subst, ap, ◌∙◌, arith}
use Rattle.uring_volume.proofs.Common.{IsShown, length_over}
use Rattle.uring_volume.proofs.ReadBack.{len_grows}
use Rattle.uring_volume.proofs.Painting.{written_back}
use Rattle.uring_volume.proofs.Leaving.{shown_by}
use Rattle.uring_volume.proofs.show.shown.Goals as goal

pub grown-requires : goal.grown-requires
grown-requires g c =
    omega (arith, c.length_left-len.ensures, len_grows (length c.args.first.now) (map (λ p. p.now) c.deref.result.now))

pub returns-clause-shown : goal.returns-clause-shown
returns-clause-shown g c =
    let same : map (λ p. p.now) c.deref-2.result.now ≡ map (λ p. p.now) c.deref.result.now = ap (map (λ p. p.now)) (c.deref-2.ensures.value ∙ sym c.deref.ensures.value) in
    subst (λ now. IsShown c.args.first.now c.args.past.now.history now)
    (sym (written_back c.write_all.new.now c.in_ok-now.now.items c.in_ok-now.now.len (search rules) (c.write_all.auto.now ∙ ap length c.deref_mut.ensures.value)))
    (shown_by c.args.first.now c.args.past.now.history (map (λ p. p.now) c.deref-2.result.now) c.deref_mut.result.now c.write_all.new.now c.length_left-len.result
    (ap (map (λ p. p.now)) c.deref-2.ensures.value ∙ c.in_ok-order.ensures.order)
    (c.length_left-len.ensures ∙ ap (length_over (length c.args.first.now)) (sym same))
    (c.deref_mut.ensures.value ∙ c.in_ok-now.ensures.bytes) c.write_all.auto.now c.write_all.ensures.within)
