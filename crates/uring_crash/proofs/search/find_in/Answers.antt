use Rattle.std.proofs.Common.{◌≡◌, ℕ, List, map, inl, inr, sym, subst, ◌∙◌, rules}
use Rattle.uring_crash.proofs.Common.{Holds, IsIn, take_all}
use Rattle.uring_crash.proofs.Searches.{more_seen, is_among}
use Rattle.uring_crash.proofs.search.find_in.Goals as goal

pub returns-then-not-holds-clause-found : goal.returns-then-not-holds-clause-found
returns-then-not-holds-clause-found g c = λ most unit h are.
    let same : c.in_ok-copied.field-0.items ≡ c.image-item.result.items = search rules in (
      are.sound c.in_ok-copied.field-0.items (subst (λ (b : List ℕ). IsIn b (map (λ v. v.items) c.args.images.now)) (sym same) (is_among (λ v. v.items) c.args.images.now c.loop-image.image-index c.image-item.result c.loop-image-test.true c.image-item.is)),
      λ holds. c.holds.ensures.no c.if-not-holds.true (subst (λ (b : List ℕ). Holds c.args.off c.args.bytes.now b) (same ∙ sym c.deref.ensures.value) holds),
    )

pub loop-image-preserved : goal.loop-image-preserved
loop-image-preserved g c = λ now among.
    elim (more_seen (λ v. v.items) c.args.images.now c.loop-image.image-index c.image-item.result now c.loop-image-test.true c.image-item.is among) [
      | inl old ↦ c.loop-image.invariant now old
      | inr same ↦ subst (λ (b : List ℕ). Holds c.args.off c.args.bytes.now b) (c.deref.ensures.value ∙ sym same) (c.holds.ensures.yes c.if-not-holds.false)
    ]

pub returns-clause-found : goal.returns-clause-found
returns-clause-found g c = λ most unit h are now image.
    c.loop-image.invariant now
    (subst (λ xs. IsIn now (map (λ v. v.items) xs)) (sym (take_all c.loop-image.image-index c.args.images.now c.loop-image-test.false)) (are.complete now image))
