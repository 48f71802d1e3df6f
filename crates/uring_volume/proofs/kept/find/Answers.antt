use Rattle.std.proofs.Common.{◌<◌, length, sym, ap, ◌∙◌, arith}
use Rattle.uring_volume.specs.declared.kept.Kept.{Kept}
use Rattle.uring_volume.proofs.KeptLists.{in_at}
use Rattle.uring_volume.proofs.Ascending.{not_past, not_there, same_at}
use Rattle.uring_volume.proofs.kept.find.Goals as goal
use Rattle.uring_volume.proofs.kept.find.Goals.{else-i-kept-via-then-i-kept+else-number-n, else-i-kept-via-else-i-kept}

pub returns-then-number-n-clause-found : goal.returns-then-number-n-clause-found
returns-then-number-n-clause-found c =
    let within : c.place-i.result < length c.args.kept.now = omega (arith, c.if-i-kept.true) in (
      in_at c.args.kept.now c.place-i.result c.index-kept-i-then-number-n.result within c.index-kept-i-then-number-n.is,
      ap (λ (z : Kept). z.piece.number) (same_at c.args.kept.now c.place-i.result c.index-kept-i-then-number-n.result c.index-kept-i.result within c.index-kept-i-then-number-n.is c.index-kept-i.is) ∙ ap (λ (z : Kept). z.piece.number) c.index-kept-i.is ∙ sym c.number.ensures ∙ c.if-number-n.true,
    )

pub returns-clause-none : goal.returns-clause-none
returns-clause-none c = elim c.else-i-kept.branch [
  | else-i-kept-via-then-i-kept+else-number-n w ↦
      not_there c.args.kept.now c.place-i.result c.args.n w.index-kept-i.result c.requires c.place-i.ensures.below c.place-i.ensures.above (omega (arith, w.if-i-kept.true)) w.index-kept-i.is (λ named. w.if-number-n.false (w.number.ensures ∙ sym (ap (λ (z : Kept). z.piece.number) w.index-kept-i.is) ∙ named))
  | else-i-kept-via-else-i-kept w ↦
      not_past c.args.kept.now c.place-i.result c.args.n c.requires c.place-i.ensures.below c.place-i.ensures.above (omega (arith, w.if-i-kept.false))
]
